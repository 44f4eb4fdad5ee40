use Rattle.mc_shared.proofs.Words.{rules, arith, ◌≡◌, length, sym, ap, subst, ◌∙◌, ◌∷◌, None, content_of, place, holding, holds_all, Mine, Past}
use Rattle.mc_shared.proofs.Stacked.{take_top, none_taken}
use Rattle.mc_shared.proofs.hold.take_all.Goals as goal

pub loop-held-preserved : goal.loop-held-preserved
loop-held-preserved g c = let inv = c.loop-held.invariant in let len = c.push_reserved.ensures.len in let room = c.push_reserved.ensures.capacity in let p = c.args.seat.now.me.0.past in (
  c.take.ensures.seat.0 ∙ inv.0,
  c.take.ensures.seat.1 ∙ inv.1,
  omega arith,
  omega (arith, room, inv.3),
  take_top _ _ p c.loop-held.held.items c.in-Ok-Shelf.shelf c.len-at.result inv.4 (search rules)
      (c.in-Ok-Shelf.ensures.ok.1 ∙ (λ i. (holding c.loop-held.seat.me.0 c.len-at.result (content_of (c.in-Ok-Shelf.field-0-is i)), (place c.len-at.result, None) ∷ c.loop-held.seat.me.1)))
      ∙ ap (holds_all p) (sym c.push_reserved.ensures.items),
)

pub returns-in-Err-clause-err : goal.returns-in-Err-clause-err
returns-in-Err-clause-err g c =
    let inv = c.loop-held.invariant in
    let p = c.args.seat.now.me.0.past in
    let same : c.len-at.result ≡ length c.loop-held.held.items = search rules in
    let busy = c.in-Err.ensures.err.1 (none_taken c.loop-held.seat.me p c.loop-held.held.items c.len-at.result inv.4 (omega (arith, same))) in
    (c.len-at.result, omega arith, subst (λ (q : Past). g.P.Patience.busy q c.len-at.result c.in-Err.told) (ap (λ (m : Mine). m.0.past) inv.4) busy)
