-- What is true of the parts of each index.
use Rattle.std.specs.Prelude.{◌≡◌, ℕ, ◌+◌, ◌<◌, ◌≤◌, List, [], ◌++◌, Option, Some, None, map, length, slice_index_or, slice_set}
use Rattle.mc_hop.specs.Cells.{filled}
use Rattle.mc_hop.specs.Tables.{AreApart, HopState}
use Rattle.mc_grow.specs.declared.parts.Spot.{Spot}

-- the buckets of an old table, and none if there is none
abbrev pub drained_items : {X : Type 0} → Option (HopState X) → List (Option X)
drained_items None = []
drained_items (Some table) = table.items

-- where a number leads, by the number of buckets of the old table and of the table
abbrev pub IsSpot : (old table number : ℕ) → Spot → Type 0
IsSpot old table number (Spot.Drained at) = (at < old) × (number ≡ at)
IsSpot old table number (Spot.Table at) = (at < table) × (number ≡ old + at)
IsSpot old table number (Spot.Stray at) = number ≡ old + (table + at)

-- no place from one number up to another has an entry, and none from that number on
abbrev pub NoneFilled : {X : Type 0} → List (Option X) → (low high : ℕ) → Type 0
NoneFilled items low high = (at : ℕ) → low ≤ at → at < high → slice_index_or items at None ≡ None

abbrev pub NoneFilledFrom : {X : Type 0} → List (Option X) → ℕ → Type 0
NoneFilledFrom items from = (at : ℕ) → from ≤ at → slice_index_or items at None ≡ None

-- the first place from a number on that has an entry
pub record IsFirstFilled {X : Type 0} (items : List (Option X)) (from at : ℕ) : Type 0 where
  pub entry : X
  pub there : slice_index_or items at None ≡ Some entry
  pub low : from ≤ at
  pub skipped : NoneFilled items from at

-- the entry of a place was changed to what a closure gives of it, and the answer is the closure's
pub record IsChanged {X R : Type 0} (post : X → X × R → Type 0) (entry : X) (at : ℕ) (old new : List (Option X)) (answer : R) : Type 0 where
  pub given : X
  pub called : post entry (given, answer)
  pub changed : new ≡ slice_set old at (Some given)

-- No hash and key stands twice, and there is room for each entry of an old table among the strays.
pub record IsIndex {X : Type 0} (hash_of : X → ℕ) (key_of : X → List ℕ) (old : Option (HopState X)) (table : HopState X) (strays : List X) (capacity : ℕ) : Type 0 where
  pub apart : AreApart hash_of key_of (drained_items old ++ (table.items ++ map Some strays))
  pub has_room : length strays + filled (drained_items old) ≤ capacity
