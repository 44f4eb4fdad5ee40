use Rattle.mc_shelf.proofs.Common.{◌∙◌, ◌≡◌, CanWrite, Err, IsSpent, key_of, List, NeedsPages, NumbersSpent, Reply, Result, rules, ShelfContent, StepFault, StepTaken, subst, sym, ℕ}
use Rattle.mc_protocol.specs.declared.step.StepFault.TheVariants.{NoMemory}
use Rattle.mc_shelf.proofs.TakesLemmas.{is_spent}
use Rattle.mc_shelf.proofs.RefusalLemmas.{can_wants, needs_can, spent_told, taken_not_spent, wants_not_spent, writes_some}
use Rattle.mc_shelf.proofs.shelf.Shelf.step.Goals as goal

apart : (r : Result Reply StepFault) → r ≡ Err NoMemory → r ≡ Err NumbersSpent → ⊥
apart r a b = cc

pub returns-in_err-make_room_at-clause-refused : goal.returns-in_err-make_room_at-clause-refused
returns-in_err-make_room_at-clause-refused c e s at =
    let plan = c.in_ok-plan.ensures.plan in
    can_wants c.args.step.now c.args.now c.args.self.now.content c.args.desk.now c.requires.look.on_key c.make_room_at.ensures.slab
    c.in_ok-plan.plan.next plan.next
    (subst (λ (k : List ℕ). CanWrite c.in_ok-plan.plan.next c.args.self.now.content k c.args.now c.args.desk.now) plan.key
    (subst (λ (n : ℕ). CanWrite c.in_ok-plan.plan.next c.args.self.now.content c.in_ok-plan.plan.key n c.args.desk.now) plan.moment c.in_err-make_room_at.ensures.refused)) s at

pub returns-in_err-make_room_at-clause-spent : goal.returns-in_err-make_room_at-clause-spent
returns-in_err-make_room_at-clause-spent c =
    let no : c.from_residual-in_err-make_room_at.result ≡ Err NoMemory = search rules in (
      (λ e. absurd (apart _ no e)),
      (λ spent. absurd (wants_not_spent c.args.step.now c.args.now c.args.self.now.content c.args.desk.now c.requires.stands (returns-in_err-make_room_at-clause-refused c no) spent)),
    )

pub returns-clause-refused : goal.returns-clause-refused
returns-clause-refused c e s at =
    let plan = c.in_ok-plan.ensures.plan in
    can_wants c.args.step.now c.args.now c.args.self.now.content c.args.desk.now c.requires.look.on_key c.make_room_at.ensures.slab
    c.in_ok-plan.plan.next plan.next
    (needs_can c.in_ok-plan.plan.next c.args.self.now.content (key_of c.args.step.now) c.args.now c.args.desk.now
    (subst (λ (t : ShelfContent). NeedsPages c.in_ok-plan.plan.next t (key_of c.args.step.now) c.args.now c.args.desk.now) c.make_room_at.ensures.content
    (subst (λ (n : ℕ). NeedsPages c.in_ok-plan.plan.next c.make_room_at.new.self.content (key_of c.args.step.now) n c.args.desk.now) plan.moment (c.apply.ensures.refused e)))) s at

pub returns-clause-spent : goal.returns-clause-spent
returns-clause-spent c =
    let plan = c.in_ok-plan.ensures.plan in
    let step = c.args.step.now in
    let old = c.args.self.now.content in
    let desk = c.args.desk.now in (
      (λ e.
          let both = c.apply.ensures.spent.0 e in
          let some = writes_some c.in_ok-plan.plan.next both.0 in
          is_spent step c.args.now old desk c.requires.look.on_key some.0 some.1 some.2 some.3 (sym some.4 ∙ plan.next) both.1),
      (λ spent. spent_told c.apply.result _ c.apply.ensures.took
          (λ reply took. taken_not_spent step c.in_ok-plan.plan.moment c.in_ok-plan.plan.hash old desk reply c.apply.new.self.content c.apply.new.desk c.requires.stands
          (subst (λ (t : ShelfContent). StepTaken step c.in_ok-plan.plan.moment c.in_ok-plan.plan.hash t desk reply c.apply.new.self.content c.apply.new.desk) c.make_room_at.ensures.content took)
          (subst (λ (m : ℕ). IsSpent step m old desk) (sym plan.moment) spent))
          (λ e. wants_not_spent step c.args.now old desk c.requires.stands (returns-clause-refused c e) spent)),
    )
