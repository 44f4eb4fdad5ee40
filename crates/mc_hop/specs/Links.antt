-- How the buckets and the list of values point to each other.
use Rattle.std.specs.Prelude.{◌≡◌, ◌≢◌, nat_lt, if◌then◌else◌, slice_set, ℕ, zero, suc, ◌+◌, ◌-◌, ◌<◌, ◌≤◌, ◌^◌, ◌/◌, ◌%◌, List, [], ◌∷◌, Option, None, map, length, slice_get, slice_index_or}
use Rattle.mc_hop.specs.declared.cells.Cell.{Cell}

-- the words of buckets, their numbers: one more than the place of the value, or 0, and their tags
abbrev pub words_of : List Cell → List ℕ
words_of cells = map (λ cell. cell.word) cells

abbrev pub ats_of : List Cell → List ℕ
ats_of cells = map (λ cell. cell.tagged % 2 ^ 25) cells

abbrev pub tags_of : List Cell → List ℕ
tags_of cells = map (λ cell. cell.tagged / 2 ^ 25) cells

-- the value that a number stands for
abbrev pub item_of : {X : Type 0} → List X → ℕ → Option X
item_of xs zero = None
item_of xs (suc i) = slice_get xs i

-- how many numbers aren't 0
abbrev pub used : List ℕ → ℕ
used [] = 0
used (zero ∷ ats) = used ats
used (suc i ∷ ats) = used ats + 1

-- the numbers and the places are each other's inverse, and there is room for a value of each bucket
pub record IsLinked {X : Type 0} (ats : List ℕ) (items : List X) (places : List ℕ)
    (item_room place_room : ℕ) : Type 0 where
  pub same_length : length places ≡ length items
  pub inside : (i : ℕ) → i < length places → slice_index_or places i 0 < length ats
  pub there : (i : ℕ) → i < length places → slice_index_or ats (slice_index_or places i 0) 0 ≡ i + 1
  pub within : (b : ℕ) → slice_index_or ats b 0 ≤ length places
  pub back : (b : ℕ) → 0 < slice_index_or ats b 0
      → slice_index_or places (slice_index_or ats b 0 - 1) 0 ≡ b
  pub count : used ats ≡ length places
  pub room : length ats ≤ item_room
  pub more : length ats ≤ place_room
  pub small : length ats < 2 ^ 25 - 1

-- the numbers once the value at the last place stands at another one, unless that was the last
abbrev pub renumbered : List ℕ → List ℕ → ℕ → List ℕ
renumbered ats places place =
    if nat_lt place (length places) then
    slice_set ats (slice_index_or places place 0) (suc place)
    else ats

-- a list after the item at a place was taken out and the last one put there
pub record IsSwapped {X : Type 0} (old new : List X) (place : ℕ) : Type 0 where
  pub shorter : length new + 1 ≡ length old
  pub last : (d : X) → place + 1 < length old
      → slice_index_or new place d ≡ slice_index_or old (length old - 1) d
  pub others : (k : ℕ) (d : X) → k ≢ place → k + 1 < length old
      → slice_index_or new k d ≡ slice_index_or old k d
