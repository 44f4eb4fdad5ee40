-- Steps one after another.
use Rattle.std.specs.Prelude.{◌≡◌, ℕ, ◌+◌, List, [], ◌∷◌}

-- From the old state to the new one there is a step for each label of the list, in order.
abbrev pub Chain : {S L : Type 0} (Step : S → L → S → Type 0) → S → List L → S → Type 0
Chain Step old [] new = new ≡ old
Chain {S} Step old (label ∷ labels) new = (mid : S) × Step old label mid × Chain Step mid labels new

-- `count` steps, one after another
pub data Repeats {S : Type 0} (step : S → S → Type 0) : (count : ℕ) (old new : S) → Type 0 where
  none_yet : {state : S} → Repeats step 0 state state
  one_more : {count : ℕ} {old mid new : S} → Repeats step count old mid → step mid new → Repeats step (count + 1) old new
