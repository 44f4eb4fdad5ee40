use Rattle.mc_shared.proofs.Words.{rules, arith, ◌≡◌, ◌≤◌, length, sym, ap, subst, ◌∙◌, ◌∷◌, Whole, start_of, OfDesk, holding, Mine}
use Rattle.mc_shared.proofs.Stacked.{none_taken, gathered}
use Rattle.mc_shared.proofs.close.gather.Goals as goal

pub returns-in-Ok-desk_at-clause-ok : goal.returns-in-Ok-desk_at-clause-ok
returns-in-Ok-desk_at-clause-ok g c =
    let began = start_of g.K.KeyHash.hash_of c.args.board.now.shared.key.value in
    let held = c.in-Ok.ensures.ok in
    let is = c.requires.count in
    let long : length c.in-Ok.held.items ≡ c.args.count = search (rules, held.0) in (
      held.0,
      gathered began c.args.seat.now.me.0.past c.in-Ok.held.items c.into_inner.result (holding c.take_all.new.seat.me.0 c.args.count (OfDesk c.in-Ok-desk_at.desk.value))
          (λ i. (is i, OfDesk (sym c.into_inner.ensures i)) ∷ (held.1 i).0.bays) (ap (λ m. m.0.past) held.1) (long ∙ is) c.requires.some_shelf c.in-Ok-desk_at.ensures.ok.2,
    )

pub returns-in-Err-clause-err : goal.returns-in-Err-clause-err
returns-in-Err-clause-err g c =
    let busy = c.in-Err.ensures.err in (busy.2.odd, busy.2.other, subst (λ k. k ≤ c.args.count) (sym busy.2.same) busy.1)

pub returns-in-Err-desk_at-clause-err : goal.returns-in-Err-desk_at-clause-err
returns-in-Err-desk_at-clause-err g c =
    let held = c.in-Ok.ensures.ok in
    let p = c.args.seat.now.me.0.past in
    let long : length c.in-Ok.held.items ≡ c.args.count = search (rules, held.0) in
    let busy = c.in-Err-desk_at.ensures.err.1 (none_taken c.take_all.new.seat.me p c.in-Ok.held.items c.args.count held.1 (omega (arith, long))) in
    (busy.odd, λ whole. busy.other (subst Whole (sym (ap (λ (m : Mine). m.0.past) held.1)) whole), (let same = busy.same in omega (arith, same)))
