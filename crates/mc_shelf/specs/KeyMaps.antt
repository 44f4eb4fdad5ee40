-- Entries in one finite map under their hashes and keys, the hash first: what stands under a key.
use Rattle.std.specs.Prelude.{◌≡◌, ℕ, List, ◌∷◌, map, Some}
use Rattle.std.specs.Ordering.{nat_cmp}
use Rattle.std.specs.Cmp.Lexicographic.{slice_cmp}
use Rattle.std.specs.FinMap.{FinMap, from_entries, get, values}
use Rattle.mc_protocol.specs.Plain.{Items}
use Rattle.mc_shelf.specs.States.{EntryState, Hashes, row, hash_row}

-- entries under lists of numbers
abbrev pub EntryMap : Type 0
EntryMap = FinMap (slice_cmp nat_cmp) EntryState

-- the entries of a map, in its order
abbrev pub entries_in : EntryMap → List EntryState
entries_in m = values m

-- their items under their keys
abbrev pub items_in : EntryMap → Items
items_in m = from_entries (map row (entries_in m))

-- their hashes under their keys
abbrev pub hashes_in : EntryMap → Hashes
hashes_in m = from_entries (map hash_row (entries_in m))

-- the hash and the key of an entry
abbrev pub hash_in : EntryState → ℕ
hash_in e = e.hash

abbrev pub key_in : EntryState → List ℕ
key_in e = e.key

-- the hash that an entry has with a key, if one has the key, is this one
abbrev pub IsHashOf : EntryMap → (key : List ℕ) → (hash : ℕ) → Type 0
IsHashOf m key hash = (stored : ℕ) → get (hashes_in m) key ≡ Some stored → stored ≡ hash

-- an entry stands under its own hash and key
abbrev pub StandsIn : EntryMap → EntryState → Type 0
StandsIn m e = get m (e.hash ∷ e.key) ≡ Some e

-- all entries stand so, and those of one key under one hash
pub record EntriesAreKeyed (m : EntryMap) : Type 0 where
  pub labelled : (at : List ℕ) (e : EntryState) → get m at ≡ Some e → at ≡ e.hash ∷ e.key
  pub one_hash : (a b : EntryState) → StandsIn m a → StandsIn m b → a.key ≡ b.key → a.hash ≡ b.hash
