-- Counts of keys by number.
use Rattle.std.specs.Prelude.{◌≡◌, ◌≢◌, ℕ, ◌*◌, ◌/◌, ◌%◌, ◌<◌, List, length, slice_index}
use Rattle.mc_protocol.specs.Plain.{Plain, flushed}
use Rattle.mc_shelf.specs.States.{ShelfContent, ShelfState, DeskState}
use Rattle.mc_shelf.specs.Numbers.{AreHashes, keys_with, numbers}
use Rattle.mc_shelf.specs.Parts.{ArePartsOf}
use Rattle.mc_shared.specs.History.{Beginning}
use Rattle.mc_shared.specs.Steps.{AreKeys}
use Rattle.mc_shared.specs.View.{SeatView}

-- a place for each number, with 0
pub record AreNone (counts : List ℕ) : Type 0 where
  pub many : length counts ≡ numbers
  pub none : (number : ℕ) → slice_index counts number ≡ 0

-- at the place of each number, how many keys of a shelf have it
pub record AreCountsOf (shelf : ShelfContent) (counts : List ℕ) : Type 0 where
  pub many : length counts ≡ numbers
  pub counted : (hash_of : List ℕ → ℕ) → AreHashes shelf hash_of → (number : ℕ) → number < numbers
      → slice_index counts number ≡ keys_with hash_of number shelf.items

-- the shelves are all parts of a state, and each has equally many numbers
pub record AreAllOf (hash_of : List ℕ → ℕ) (state : Plain) (shelves : List ShelfState) : Type 0
  where
    pub count : ℕ
    pub divides : numbers / count * count ≡ numbers
    pub desk : DeskState
    pub parts : ArePartsOf hash_of state shelves count desk

-- at the place of each number, how many keys have it, in any state with these shelves
pub record AreCountsOfAll (shelves : List ShelfState) (counts : List ℕ) : Type 0 where
  pub many : length counts ≡ numbers
  pub counted : (hash_of : List ℕ → ℕ) (state : Plain) → AreAllOf hash_of state shelves
      → (number : ℕ) → number < numbers
      → slice_index counts number ≡ keys_with hash_of number state.items

-- at the place of each number of a remainder, how many keys have it, in any state that fits what a
-- seat holds, and 0 at the others
pub record AreKeyCounts (start : Beginning) (v : SeatView) (step at : ℕ) (counts : List ℕ) : Type 0
  where
    pub many : length counts ≡ numbers
    pub counted : (number : ℕ) → number < numbers → number % step ≡ at
        → AreKeys start v number (slice_index counts number)
    pub none : (number : ℕ) → number < numbers → number % step ≢ at → slice_index counts number ≡ 0

-- at the place of each number, how many keys of a shelf have it, by one hash function
pub record AreCountsBy (hash_of : List ℕ → ℕ) (shelf : ShelfContent) (counts : List ℕ) : Type 0
  where
    pub many : length counts ≡ numbers
    pub counted : (number : ℕ) → number < numbers
        → slice_index counts number ≡ keys_with hash_of number shelf.items

-- at the place of each number, how many keys with it a flush after a delay leaves, in any state
-- with these shelves
pub record AreCountsLeft (delay : ℕ) (shelves : List ShelfState) (counts : List ℕ) : Type 0 where
  pub many : length counts ≡ numbers
  pub counted : (hash_of : List ℕ → ℕ) (state : Plain) (now : ℕ)
      → AreAllOf hash_of (flushed delay state now) shelves → (number : ℕ) → number < numbers
      → slice_index counts number ≡ keys_with hash_of number (flushed delay state now).items
