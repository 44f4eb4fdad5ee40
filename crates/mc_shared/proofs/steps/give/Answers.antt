use Rattle.mc_shared.proofs.Words.{rules, ℕ, sym, ap, ◌∙◌, subst, Some, ◌∷◌, rest, Allows, step, none, start_of, Kept, content_of, gave}
use Rattle.mc_shared.proofs.StepsKept.{gives_bay}
use Rattle.mc_shared.proofs.steps.give.Goals as goal

pub store-requires : goal.store-requires
store-requires g c = let board = c.args.board.now.shared in let now = c.exchange.ensures.3 in let began = start_of g.K.KeyHash.hash_of board.key.value in (
  search rules,
  c.place_of-place.ensures.inside,
  subst (λ (k : ℕ). Allows (Kept began) board.table_id.slots c.exchange.new.seat.id c.exchange.new.seat.me k (λ _. 0)
      (λ _. gave began (step board.table_id.slots k 0 0 none) c.exchange.new.seat.me 0)) (sym c.place_of-place.ensures.place)
      (gives_bay began _ _ c.args.bay c.args.value _ (ap (λ m. m.0.bays) now ∙ (c.requires.held.0 ∙ ap (λ m. (c.args.bay, content_of c.args.value) ∷ rest m.0.bays) (sym now)))
      (ap (λ m. m.1) now ∙ (λ i. (c.place_of-place.ensures.place i, Some c.args.value) ∷ rest (sym now i).1))
      (ap (λ m. m.0.surplus) now ∙ c.requires.held.2)),
)
