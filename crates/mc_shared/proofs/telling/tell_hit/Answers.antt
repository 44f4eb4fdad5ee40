use Rattle.mc_shared.proofs.Words.{◌≡◌, Some, sym, ap, ◌∙◌, subst, refl, get, key_of, alive, hit_of, is_gone}
use Rattle.mc_shared.proofs.HitLemmas.{found_gone, found_stands}
use Rattle.mc_shared.proofs.telling.tell_hit.Goals as goal
use Rattle.mc_shared.proofs.telling.tell_hit.Goals.{In-Standing}

pub returns-in-Dead-clause-sought : goal.returns-in-Dead-clause-sought
returns-in-Dead-clause-sought g c =
    let shelf = c.args.shelf.now.content in
    let now = c.args.ask.now.moment in
    let found = sym c.find.ensures ∙ c.in-Dead.is in
    (ap (λ k. is_gone shelf.cut now (get shelf.items k)) (sym c.key.ensures) ∙ found_gone shelf.cut now c.key.result.now (get shelf.items c.key.result.now) found, refl)

-- the item that was found is the one that stands
stood : (g : _) → (c : In-Standing g)
    → alive c.args.shelf.now.content.cut c.args.ask.now.moment (get c.args.shelf.now.content.items (key_of c.args.ask.now.step.now)) ≡ Some c.in-Standing.hit.item
stood g c =
    let shelf = c.args.shelf.now.content in
    let now = c.args.ask.now.moment in
    ap (λ k. alive shelf.cut now (get shelf.items k)) (sym c.key.ensures)
    ∙ found_stands shelf.cut now c.key.result.now (get shelf.items c.key.result.now) c.in-Standing.hit (sym c.find.ensures ∙ c.in-Standing.is)

pub returns-in-Ok-clause-sought : goal.returns-in-Ok-clause-sought
returns-in-Ok-clause-sought g c =
    let stands = stood g (goal.at.returns-in-Ok-clause-sought g c).In-Standing in
    ((c.in-Standing.hit.item, stands), subst (λ r. g.A.Answer.told c.args.answer.now r c.tell_item.new.answer) (ap hit_of (sym stands)) c.in-Ok.ensures.told)

pub returns-in-Err-clause-stands : goal.returns-in-Err-clause-stands
returns-in-Err-clause-stands g c = (c.in-Standing.hit.item, stood g (goal.at.returns-in-Err-clause-stands g c).In-Standing)
