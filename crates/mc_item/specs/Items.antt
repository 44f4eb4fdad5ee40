-- What contracts see of an item.
use Rattle.std.specs.Prelude.{ℕ, zero, suc, ◌+◌, ◌-◌, ◌≤◌, List, [], ◌∷◌, length, take, drop, nat_le, refl, if◌then◌else◌}
use Rattle.std.specs.Coded.{Coded, code_by, coded×, coded_ℕ, coded_list}
use Rattle.mc_time.specs.declared.expiry.Expiry.{Expiry}
use Rattle.mc_time.specs.Stored.{coded_expiry}
use Rattle.mc_slab.specs.Classes.{size_of}
pub use Rattle.mc_slab.specs.Chunks.{header_size}
use Rattle.mc_slab.specs.Needs.{NeedState, IsNeed, size_in}

-- an item's key with its hash, what stands under it, and the class and the number of the chunks that it lies in
pub record ItemState : Type 0 where
  pub hash : ℕ
  pub key : List ℕ
  pub flags : ℕ
  pub expiry : Expiry
  pub block : List ℕ
  pub unique : ℕ
  pub updated : ℕ
  pub class : ℕ
  pub count : ℕ

-- what its chunks serve
abbrev pub item_need : ItemState → NeedState
item_need item = record { class = item.class; count = item.count }

-- how many bytes the longest key has
abbrev pub longest_key : ℕ
longest_key = 250

-- how many bytes of its chunks an item takes: its header, its key, and its block
abbrev pub charge_of : ItemState → ℕ
charge_of item = header_size + length item.key + length item.block

-- What is true of every item: its chunks serve a need, its key is not too long, and its charge fits the chunks.
pub record IsItem (item : ItemState) : Type 0 where
  pub is_need : IsNeed (item_need item)
  pub key : length item.key ≤ longest_key
  pub fits : charge_of item ≤ size_in (item_need item)

-- bytes in `count` pieces of a size; the last may be shorter, or empty
abbrev pub pieces : (size count : ℕ) → List ℕ → List (List ℕ)
pieces size zero bytes = []
pieces size (suc count) bytes = take size bytes ∷ pieces size count (drop size bytes)

-- where the block of an item with so long a key begins in the bytes of its chunks: behind its header and its key, or at
-- their begin from class 27 on, where header and key lie in the head beside them
unfoldable pub start_of : (class key : ℕ) → ℕ
start_of class key = if nat_le 27 class then 0 else header_size + key

-- how much of an item's block lies in its first chunk at most
abbrev pub front_of : ItemState → ℕ
front_of item = size_of item.class - start_of item.class (length item.key)

-- an item's block, cut where its chunks end
abbrev pub parts_of : ItemState → List (List ℕ)
parts_of item =
    take (front_of item) item.block
    ∷ pieces (size_of item.class) (item.count - 1) (drop (front_of item) item.block)

-- how a proof stores an item
abbrev pub coded_item : Coded ItemState
coded_item =
    code_by (ℕ × (List ℕ × (ℕ × (Expiry × (List ℕ × (ℕ × (ℕ × (ℕ × ℕ))))))))
    (coded× coded_ℕ (coded× (coded_list coded_ℕ) (coded× coded_ℕ (coded× coded_expiry (coded× (coded_list coded_ℕ) (coded× coded_ℕ (coded× coded_ℕ (coded× coded_ℕ coded_ℕ))))))))
    (λ i. (i.hash, (i.key, (i.flags, (i.expiry, (i.block, (i.unique, (i.updated, (i.class, i.count)))))))))
    (λ p. record { hash = p.0; key = p.1.0; flags = p.1.1.0; expiry = p.1.1.1.0; block = p.1.1.1.1.0; unique = p.1.1.1.1.1.0; updated = p.1.1.1.1.1.1.0; class = p.1.1.1.1.1.1.1.0; count = p.1.1.1.1.1.1.1.1 })
    (λ _. refl)
