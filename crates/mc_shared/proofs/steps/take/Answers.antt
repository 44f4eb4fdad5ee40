use Rattle.mc_shared.proofs.Words.{rules, arith, ℕ, ◌+◌, ◌<◌, sym, ap, ◌∙◌, subst, Some, ◌∷◌, eqb, rest, Allows, step, none, either, start_of, Kept, took}
use Rattle.mc_shared.proofs.StepsKept.{takes_bay}
use Rattle.mc_shared.proofs.steps.take.Goals as goal

pub compare_exchange-word-requires : goal.compare_exchange-word-requires
compare_exchange-word-requires g c = let board = c.args.board.now.shared in let began = start_of g.K.KeyHash.hash_of board.key.value in
    let at : c.args.bay < began.shelves + 1 = (let l = c.requires.bay in omega (arith, l)) in (
      c.requires.seat.seated.own,
      c.place_of-place.ensures.inside,
      subst (λ (t : ℕ × ℕ). Allows (Kept began) board.table_id.slots c.args.seat.now.id c.args.seat.now.me t.1
          (λ n. either (eqb n 0) 1 n) (took began t.0 (step board.table_id.slots t.1 0 1 none) c.args.seat.now.me))
          (λ i. (sym c.place_of-place.ensures.back i, sym c.place_of-place.ensures.place i)) (takes_bay began _ _ c.args.bay c.args.seat.now.me at c.requires.seat.lives),
    )

pub exchange-requires : goal.exchange-requires
exchange-requires g c = let did = c.compare_exchange-word.ensures in let got = did.2.0 (search rules) in
    (search rules, (Some got.0, ap (λ m. m.1) got.2 ∙ ap (λ xs. (c.place_of-place.result, Some got.0) ∷ rest xs) (sym (ap (λ m. m.1) got.2))))
