-- Where keys stand in an index.
use Rattle.std.specs.Prelude.{◌≡◌, ℕ, List, Option, Some, None, IfSome}
use Rattle.std.specs.FinMap.{get, insert, remove}
use Rattle.std.specs.Borrow.{Bor}
use Rattle.mc_grow.specs.Indexes.{IndexState, IsFilled, entry_at, holds, left}
use Rattle.mc_grow.specs.declared.index.Place.{Place}
use Rattle.mc_protocol.specs.Plain.{Items, Entry, item_need}
use Rattle.mc_protocol.specs.Rows.{standing_in}
use Rattle.mc_shelf.specs.States.{EntryState, Hashes}
use Rattle.mc_shelf.specs.KeyMaps.{EntryMap, StandsIn, hash_in, key_in, hashes_in, items_in}

-- the entries of an index under their hashes and keys
abbrev pub entries_of : IndexState EntryState → EntryMap
entries_of index = holds hash_in key_in index

-- their items under the keys alone
abbrev pub items_of : IndexState EntryState → Items
items_of index = items_in (entries_of index)

-- and their hashes
abbrev pub hashes_of : IndexState EntryState → Hashes
hashes_of index = hashes_in (entries_of index)

-- an entry of the key stands at the place, and its item and its hash are those under the key
pub record IsKeyAt (index : IndexState EntryState) (key : List ℕ) (place : Place) : Type 0 where
  pub entry : EntryState
  pub there : entry_at index place ≡ Some entry
  pub held : StandsIn (entries_of index) entry
  pub same_key : entry.key ≡ key
  pub item : get (items_of index) key ≡ Some entry.item
  pub hash : get (hashes_of index) key ≡ Some entry.hash

-- what a search for a key finds: its place, and none exactly where no entry has the key
abbrev pub IsKeyFound : IndexState EntryState → (key : List ℕ) → Option Place → Type 0
IsKeyFound index key None = get (items_of index) key ≡ None
IsKeyFound index key (Some place) = IsKeyAt index key place

-- the entry at the place lies in chunks of the class
pub record IsOfClass (index : IndexState EntryState) (class : ℕ) (place : Place) : Type 0 where
  pub filled : IsFilled index place
  pub own : (entry : EntryState) → entry_at index place ≡ Some entry → (item_need entry.key entry.item).class ≡ class

-- the entry that is lent is the key's, and none is if no entry has the key
pub record IsEntryOf (index : IndexState EntryState) (key : List ℕ) (entry : Option (Bor EntryState)) : Type 0 where
  pub item : standing_in (λ e. e.item) entry ≡ get (items_of index) key
  pub same_key : IfSome entry (λ e. e.now.key ≡ key)

-- an item has come under a key, with a hash
pub record KeyComes (old new : IndexState EntryState) (entry : EntryState) : Type 0 where
  pub items : items_of new ≡ insert (items_of old) entry.key entry.item
  pub hashes : hashes_of new ≡ insert (hashes_of old) entry.key entry.hash

-- the item and the hash under a key are gone
pub record KeyGoes (old new : IndexState EntryState) (key : List ℕ) : Type 0 where
  pub items : items_of new ≡ remove (items_of old) key
  pub hashes : hashes_of new ≡ remove (hashes_of old) key

-- the item under a key, which is in the index, has become this one, and nothing else has changed
pub record ItemIsChanged (old new : IndexState EntryState) (key : List ℕ) (item : Entry) : Type 0 where
  pub items : items_of new ≡ insert (items_of old) key item
  pub hashes : hashes_of new ≡ hashes_of old
  pub same_k : new.k ≡ old.k
  pub same_growing : new.growing ≡ old.growing
  pub same_room : new.spare ≡ old.spare
  pub same_left : left new ≡ left old
