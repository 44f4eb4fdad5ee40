use Rattle.mc_shelf.specs.Plans.{CanWrite}
use Rattle.mc_shared.proofs.Words.{ℕ, List, sym, subst, ◌∙◌, key_of, ShelfContent, NeedsPages}
use Rattle.mc_shelf.proofs.TakesLemmas.{is_spent}
use Rattle.mc_shelf.proofs.RefusalLemmas.{can_wants, needs_can, writes_some}
use Rattle.mc_shared.proofs.step.begin.Goals as goal

pub returns-in_err-make_missing_room-clause-refused : goal.returns-in_err-make_missing_room-clause-refused
returns-in_err-make_missing_room-clause-refused c e =
    let ask = c.args.ask.now in
    let shelf = c.args.shelf.now.content in
    let next = c.args.plan.now.next in
    let plan = c.requires.plan.is_plan in
    can_wants ask.step.now ask.moment shelf c.args.desk.now plan.on_key c.make_missing_room.ensures.slab next plan.next
    (subst (λ (t : List ℕ × ℕ). CanWrite next shelf t.0 t.1 c.args.desk.now) (λ i. (plan.key i, plan.moment i)) c.in_err-make_missing_room.ensures.refused)

pub returns-clause-spent : goal.returns-clause-spent
returns-clause-spent c e =
    let ask = c.args.ask.now in
    let plan = c.requires.plan.is_plan in
    let told = c.begin.ensures.spent.0 e in
    let some = writes_some c.args.plan.now.next told.0 in
    is_spent ask.step.now ask.moment c.args.shelf.now.content c.args.desk.now plan.on_key some.0 some.1 some.2 some.3 (sym some.4 ∙ plan.next) told.1

pub returns-clause-refused : goal.returns-clause-refused
returns-clause-refused c e =
    let ask = c.args.ask.now in
    let next = c.args.plan.now.next in
    let plan = c.requires.plan.is_plan in
    can_wants ask.step.now ask.moment c.args.shelf.now.content c.args.desk.now plan.on_key c.make_missing_room.ensures.slab next plan.next
    (needs_can next c.args.shelf.now.content (key_of ask.step.now) ask.moment c.args.desk.now
    (subst (λ (t : ShelfContent × ℕ). NeedsPages next t.0 (key_of ask.step.now) t.1 c.args.desk.now) (λ i. (c.make_missing_room.ensures.content i, plan.moment i))
    (c.begin.ensures.refused e)))
