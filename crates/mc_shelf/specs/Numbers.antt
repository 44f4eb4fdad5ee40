-- The numbers of keys.
use Rattle.std.specs.Prelude.{◌≡◌, ℕ, ◌+◌, ◌%◌, ◌<◌, ◌==◌, List, Some, length, slice_index}
use Rattle.std.specs.FinMap.{get, len, retain_keys}
use Rattle.mc_protocol.specs.Plain.{Items, Entry}
use Rattle.mc_shelf.specs.States.{ShelfContent, IsHash}

-- how many numbers there are
abbrev pub numbers : ℕ
numbers = 4096

-- the number of a key: its hash modulo their count
abbrev pub number_of : (hash_of : List ℕ → ℕ) → (key : List ℕ) → ℕ
number_of hash_of key = hash_of key % numbers

-- how many keys of the items have the number
abbrev pub keys_with : (hash_of : List ℕ → ℕ) → (number : ℕ) → Items → ℕ
keys_with hash_of number items = len (retain_keys items (λ key. number_of hash_of key == number))

-- the hashes that a shelf has with its keys are of this function
abbrev pub AreHashes : ShelfContent → (hash_of : List ℕ → ℕ) → Type 0
AreHashes shelf hash_of = (key : List ℕ) → IsHash shelf key (hash_of key)

-- a place for each number, and 0 at those of a shelf's keys
pub record HasPlaces (shelf : ShelfContent) (counts : List ℕ) : Type 0 where
  pub many : length counts ≡ numbers
  pub zero : (key : List ℕ) (item : Entry) (hash : ℕ) → get shelf.items key ≡ Some item
      → get shelf.hashes key ≡ Some hash → slice_index counts (hash % numbers) ≡ 0

-- the keys of a shelf were counted: each number's place has grown by the number of keys that have it
pub record KeysAreCounted (shelf : ShelfContent) (old new : List ℕ) : Type 0 where
  pub many : length new ≡ numbers
  pub counted : (hash_of : List ℕ → ℕ) → AreHashes shelf hash_of
      → (number : ℕ) → number < numbers
      → slice_index new number ≡ slice_index old number + keys_with hash_of number shelf.items
