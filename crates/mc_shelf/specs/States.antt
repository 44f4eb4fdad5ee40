-- What contracts see of an entry, a shelf and a desk.
use Rattle.std.specs.Prelude.{◌≡◌, ℕ, Bool, List, Option, Some, None, refl}
use Rattle.std.specs.Coded.{Coded, code_by, coded×, coded_ℕ, coded_bool, coded_list, coded_option}
use Rattle.std.specs.Ordering.{nat_cmp}
use Rattle.std.specs.Cmp.Lexicographic.{slice_cmp}
use Rattle.std.specs.FinMap.{FinMap, get, empty, code}
use Rattle.mc_slab.specs.Slabs.{SlabState, coded_slab, out_of}
use Rattle.mc_slab.specs.Classes.{IsClass}
use Rattle.mc_protocol.specs.Plain.{Items, Entry, coded_entry, Plain, count_of, item_need}
use Rattle.mc_item.specs.Items as items
use Rattle.mc_item.specs.Items.{ItemState}
use Rattle.mc_item.specs.declared.item.Parts.{Parts}

-- an entry: a hash that came with the key, the key, and the item under it
pub record EntryState : Type 0 where
  pub hash : ℕ
  pub key : List ℕ
  pub item : Entry

abbrev pub coded_entry_state : Coded EntryState
coded_entry_state =
    code_by (ℕ × (List ℕ × Entry)) (coded× coded_ℕ (coded× (coded_list coded_ℕ) coded_entry)) (λ e. (e.hash, (e.key, e.item)))
    (λ p. record { hash = p.0; key = p.1.0; item = p.1.1 })
    (λ _. refl)

-- what stands under its key of an item that lies in a chunk
abbrev pub entry_of : ItemState → Entry
entry_of item = record { flags = item.flags; expiry = item.expiry; block = item.block; unique = item.unique; updated = item.updated }

-- an item as it lies in the chunks that it needs
abbrev pub stored : (key : List ℕ) → Entry → ItemState
stored key item = record {
  hash = 0;
  key = key;
  flags = item.flags;
  expiry = item.expiry;
  block = item.block;
  unique = item.unique;
  updated = item.updated;
  class = (item_need key item).class;
  count = (item_need key item).count;
}

-- its block, cut where its chunks end
abbrev pub parts_of : (key : List ℕ) → Entry → List (List ℕ)
parts_of key item = items.parts_of (stored key item)

-- the entry of parts with this block
abbrev pub entry_with : Parts → (block : List ℕ) → EntryState
entry_with parts block = record {
  hash = parts.hash;
  key = parts.key.now;
  item = record {
    flags = parts.flags;
    expiry = parts.expiry;
    block = block;
    unique = parts.unique;
    updated = parts.updated;
  };
}

-- an entry as a finite map has it
abbrev pub row : EntryState → List ℕ × Entry
row e = (e.key, e.item)

-- its hash under its key
abbrev pub hash_row : EntryState → List ℕ × ℕ
hash_row e = (e.key, e.hash)

-- hashes under keys
abbrev pub Hashes : Type 0
Hashes = FinMap (slice_cmp nat_cmp) ℕ

-- what a shelf holds: the greatest charge of an item, the items and the hashes under their keys, and the flush that is
-- waiting or has come
pub record ShelfContent : Type 0 where
  pub greatest : ℕ
  pub items : Items
  pub hashes : Hashes
  pub cut : Option ℕ

abbrev pub coded_content : Coded ShelfContent
coded_content =
    code_by (ℕ × (Items × (Hashes × Option ℕ)))
    (coded× coded_ℕ (coded× (code (coded_list coded_ℕ) coded_entry) (coded× (code (coded_list coded_ℕ) coded_ℕ) (coded_option coded_ℕ))))
    (λ s. (s.greatest, (s.items, (s.hashes, s.cut))))
    (λ p. record { greatest = p.0; items = p.1.0; hashes = p.1.1.0; cut = p.1.1.1 })
    (λ _. refl)

-- A shelf: what it holds, and what moves beside it: for how many more entries there is room, how many homes the table has that
-- new entries go to, whether it grows, how many of an old table's entries are left to move then, and how many stand in no table;
-- and how many items purges and flushes have dropped.
pub record ShelfState : Type 0 where
  pub content : ShelfContent
  pub room : ℕ
  pub homes : ℕ
  pub growing : Bool
  pub left : ℕ
  pub strays : ℕ
  pub reclaimed : ℕ

abbrev pub coded_shelf : Coded ShelfState
coded_shelf =
    code_by (ShelfContent × (ℕ × (ℕ × (Bool × (ℕ × (ℕ × ℕ))))))
    (coded× coded_content (coded× coded_ℕ (coded× coded_ℕ (coded× coded_bool (coded× coded_ℕ (coded× coded_ℕ coded_ℕ))))))
    (λ s. (s.content, (s.room, (s.homes, (s.growing, (s.left, (s.strays, s.reclaimed)))))))
    (λ p. record { content = p.0; room = p.1.0; homes = p.1.1.0; growing = p.1.1.1.0; left = p.1.1.1.1.0; strays = p.1.1.1.1.1.0; reclaimed = p.1.1.1.1.1.1 })
    (λ _. refl)

-- a shelf that holds nothing
abbrev pub nothing_held : ℕ → ShelfContent
nothing_held greatest = record { greatest = greatest; items = empty; hashes = empty; cut = None }

-- the hash that a shelf has with a key, if it has the key, is this one
abbrev pub IsHash : ShelfContent → (key : List ℕ) → (hash : ℕ) → Type 0
IsHash shelf key hash = (stored : ℕ) → get shelf.hashes key ≡ Some stored → stored ≡ hash

-- a desk: the slab, and the number that the next write draws
pub record DeskState : Type 0 where
  pub slab : SlabState
  pub next_unique : ℕ

abbrev pub coded_desk : Coded DeskState
coded_desk =
    code_by (SlabState × ℕ) (coded× coded_slab coded_ℕ) (λ s. (s.slab, s.next_unique))
    (λ p. record { slab = p.0; next_unique = p.1 })
    (λ _. refl)

-- a plain state whose item at the key is this shelf's, and whose pages, counts and numbers this desk keeps
pub record StandsAt (key : List ℕ) (shelf : ShelfContent) (desk : DeskState) (s : Plain) : Type 0 where
  pub greatest : s.greatest ≡ shelf.greatest
  pub cut : s.cut ≡ shelf.cut
  pub item : get s.items key ≡ get shelf.items key
  pub next_unique : s.next_unique ≡ desk.next_unique
  pub limit : s.limit ≡ desk.slab.limit
  pub pages : s.pages ≡ desk.slab.pages
  pub out : (class : ℕ) → IsClass class → out_of desk.slab class ≡ count_of s.items class

-- there is such a state
pub record CanStandAt (key : List ℕ) (shelf : ShelfContent) (desk : DeskState) : Type 0 where
  pub plain : Plain
  pub stands : StandsAt key shelf desk plain
