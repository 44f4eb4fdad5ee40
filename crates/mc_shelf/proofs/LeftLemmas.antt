-- How many entries each shelf of a store has left to move, after a change of one shelf or of all.
use Rattle.mc_shelf.proofs.Common.{⊎_elim, ◌++◌, ◌<◌, ◌∙◌, ◌≡◌, ◌≤◌, ap, arith, cases_eq, drop, FewMoveAt, get_or-set_other, get_or-set_same, get_or_from_slice_get, inl, inr, IsOnKey}
use Rattle.mc_shelf.proofs.Common.{KeyStep, lefts, length, length-map, List, map-set, MovesFew, NoneRises, option_map, ShelfCounts, ShelfState, slice_get-map, slice_get_within, slice_index}
use Rattle.mc_shelf.proofs.Common.{slice_set, Some, subst, sym, take, take-append_seam, ℕ}
use Rattle.std.proofs.Common.{slice_get}
use Rattle.mc_protocol.specs.declared.step.KeyStep.TheVariants.{Flush}
use Rattle.mc_shelf.specs.Stores.{FallsAt, FewMove, FewMoveSomewhere, OthersKeep, StepMoves}

-- of a step on a key, by the counts of its shelf
pub few_left : (old new : ShelfCounts) → MovesFew 9 old new → FewMove old.left new.left
few_left old new (inl goes) = record { few = goes.few; begins = inl goes.less }
few_left old new (inr begins) = record { few = omega (arith, begins.begins.last); begins = inr begins.begins.last }

pub step_moves : (step : KeyStep) → IsOnKey step → {old new : List ℕ} → FewMoveSomewhere old new → StepMoves step old new
step_moves (Flush delay) on few = absurd on
step_moves step on few = few

-- one shelf has changed
module _ (list : List ShelfState) (at : ℕ) {shelf : ShelfState} (shelf' : ShelfState) (here : slice_get list at ≡ Some shelf) where
  pub was : slice_index (lefts list) at ≡ shelf.left
  was = get_or_from_slice_get (lefts list) at shelf.left 0 (slice_get-map (λ (s : ShelfState). s.left) list at ∙ ap (option_map (λ (s : ShelfState). s.left)) here)

  changed : lefts (slice_set list at shelf') ≡ slice_set (lefts list) at shelf'.left
  changed = map-set (λ (s : ShelfState). s.left) list at shelf'

  inside : at < length (lefts list)
  inside = let same = length-map list (λ (s : ShelfState). s.left) in let within = slice_get_within list at shelf here in omega (arith, same, within)

  pub is : slice_index (lefts (slice_set list at shelf')) at ≡ shelf'.left
  is = ap (λ (l : List ℕ). slice_index l at) changed ∙ get_or-set_same (lefts list) at shelf'.left 0 inside

  others : OthersKeep at (lefts list) (lefts (slice_set list at shelf'))
  others = changed ∙ ap (slice_set (lefts list) at) (sym is)

  pub few_at : FewMove shelf.left shelf'.left → FewMoveAt at (lefts list) (lefts (slice_set list at shelf'))
  few_at few = (others, subst (λ (n : ℕ). FewMove n (slice_index (lefts (slice_set list at shelf')) at)) (sym was) (subst (FewMove shelf.left) (sym is) few))

  pub falls_at : shelf'.left ≤ shelf.left → FallsAt at (lefts list) (lefts (slice_set list at shelf'))
  falls_at less = (others, omega (arith, was, is, less))

  pub falls : shelf'.left ≤ shelf.left → NoneRises (lefts list) (lefts (slice_set list at shelf'))
  falls less k =
      ⊎_elim (λ same. let here_is : slice_index (lefts (slice_set list at shelf')) k ≡ shelf'.left = ap (slice_index (lefts (slice_set list at shelf'))) same ∙ is in
      let here_was : slice_index (lefts list) k ≡ shelf.left = ap (slice_index (lefts list)) same ∙ was in omega (arith, here_is, here_was, less))
      (λ other. let same = ap (λ (l : List ℕ). slice_index l k) changed ∙ get_or-set_other (lefts list) at k shelf'.left 0 other in omega (arith, same)) (cases_eq k at)

-- shelves in turn
pub rises_never : (first list : List ShelfState) (at : ℕ) {shelf : ShelfState} (shelf' : ShelfState) → slice_get list at ≡ Some shelf → NoneRises (lefts first) (lefts list)
    → shelf'.left ≤ shelf.left → NoneRises (lefts first) (lefts (slice_set list at shelf'))
rises_never first list at shelf' here none less k = let before = none k in let then = falls list at shelf' here less k in omega (arith, before, then)

-- shelves that are written back where they stood
pub rises_back : {count : ℕ} (old given new : List ShelfState) → count ≡ length new → given ≡ old → NoneRises (lefts given) (lefts new)
    → NoneRises (lefts old) (lefts (take count (new ++ drop (length new) old)))
rises_back {count} old given new all same none =
    subst (λ (l : List ShelfState). NoneRises (lefts old) (lefts l)) (sym (ap (λ (n : ℕ). take n (new ++ drop (length new) old)) all ∙ take-append_seam new (drop (length new) old)))
    (subst (λ (l : List ShelfState). NoneRises (lefts l) (lefts new)) same none)
