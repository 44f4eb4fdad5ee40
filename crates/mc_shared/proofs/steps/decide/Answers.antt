use Rattle.mc_shared.proofs.Words.{rules, ℕ, eqb, sym, ap, ◌∙◌, subst, Some, ◌∷◌, rest, Allows, step, none, either, start_of, Lives, Kept, content_of, Mine, Decides, Counts, decided}
use Rattle.mc_shared.proofs.Words.{decided_by, operation_of, still_of, surplus_of}
use Rattle.mc_shared.proofs.StepsKept.{decides_bay}
use Rattle.mc_shared.proofs.steps.decide.Goals as goal

pub free_as-requires : goal.free_as-requires
free_as-requires g c = let board = c.args.board.now.shared in let now = c.exchange.ensures.3 in let x = c.requires.held.0.0 in let began = start_of g.K.KeyHash.hash_of board.key.value in
    let what = operation_of c.args.decision.now in let still = still_of c.args.decision.now in let surplus = surplus_of began c.args.decision.now in (
      search rules,
      c.place_of-place.ensures.inside,
      subst (λ (k : ℕ). Allows (Kept began) board.table_id.slots c.exchange.new.seat.id c.exchange.new.seat.me k
          (λ n. either (eqb n 1) 0 n) (decided began what still surplus (step board.table_id.slots k 1 0 none) c.exchange.new.seat.me))
          (sym c.place_of-place.ensures.place)
          (decides_bay began _ _ c.args.bay x c.args.value what still surplus _
          (ap (λ m. m.0.bays) now ∙ (c.requires.held.0.1 ∙ ap (λ m. (c.args.bay, x) ∷ rest m.0.bays) (sym now)))
          (ap (λ m. m.1) now ∙ (λ i. (c.place_of-place.ensures.place i, Some c.args.value) ∷ rest (sym now i).1))
          (subst (λ (m : Mine). Decides began m.0.bays c.args.bay (content_of c.args.value) what still) (sym now) c.requires.right)
          (subst (λ (m : Mine). Counts began m.0 what (decided_by m what still surplus).0) (sym now) c.requires.counts)
          (subst (λ (m : Mine). Lives m.0.past) (sym now) c.requires.alive.lives)),
    )
