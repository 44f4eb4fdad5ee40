-- Shelves that were laid aside whole. The chunks of their items are free, and not yet collected: they are out of the slab, and
-- contracts above it don't see that.
use Rattle.std.specs.Prelude.{◌≡◌, ◌⊎◌, ℕ, ◌+◌, ◌-◌, ◌≤◌, List, [], ◌∷◌, Some, length, replicate, slice_index}
use Rattle.std.specs.List.{sum_by}
use Rattle.std.specs.FinMap.{get, remove}
use Rattle.mc_slab.specs.Classes.{IsClass}
use Rattle.mc_slab.specs.Needs.{NeedState, IsNeed}
use Rattle.mc_slab.specs.Chunks.{ChunksState, need_in}
use Rattle.mc_slab.specs.Slabs.{SlabState, IsSlab, given, out_of, unused}
use Rattle.mc_protocol.specs.Plain.{chunks_in, count_of}
use Rattle.mc_shelf.specs.States.{EntryState, ShelfContent, ShelfState}

-- how many chunks of a class the items of shelves have
abbrev pub count_in : List ShelfState → (class : ℕ) → ℕ
count_in [] class = 0
count_in (shelf ∷ shelves) class = count_of shelf.content.items class + count_in shelves class

-- a slab as it is seen, with these chunks out
abbrev pub seen : SlabState → (out : List ℕ) → SlabState
seen slab out = record slab { out = out }

-- a slab with no chunk out
abbrev pub none_out : SlabState → SlabState
none_out slab = seen slab (replicate 40 0)

-- how many chunks are out of a slab, of all classes
abbrev pub all_out : SlabState → ℕ
all_out slab = sum_by (λ n. n) slab.out

-- For each class, class 1 first: the number of chunks seen to be out. All others that are out of the slab lie on detached shelves.
pub record LieAside (slab : SlabState) (out : List ℕ) (shelves : List ShelfState) : Type 0 where
  pub is_slab : IsSlab slab
  pub classes : length out ≡ 40
  pub account : (class : ℕ) → IsClass class
      → out_of slab class ≡ slice_index out (class - 1) + count_in shelves class

-- an entry was taken off a shelf
pub record IsOff (old new : ShelfContent) (entry : EntryState) : Type 0 where
  pub found : get old.items entry.key ≡ Some entry.item
  pub items : new.items ≡ remove old.items entry.key

-- the chunks of one item were taken off shelves
pub record AreOff (old new : List ShelfState) (chunks : ChunksState) : Type 0 where
  pub is_need : IsNeed (need_in chunks)
  pub counts : (class : ℕ)
      → count_in new class + chunks_in (need_in chunks) class ≡ count_in old class

-- Chunks of shelves aside were given to the slab: whatever was seen of it before is seen of it still.
pub record AreCollected (old new : SlabState) (before after : List ShelfState) : Type 0 where
  pub lie : (out : List ℕ) → LieAside old out before → LieAside new out after
  pub limit : new.limit ≡ old.limit
  pub pages : new.pages ≡ old.pages

-- the slab has enough unused chunks for a need once `back` chunks came back, or none of its class lies aside
abbrev pub Suffices : SlabState → (need : NeedState) → (back out : ℕ) → Type 0
Suffices slab need back out =
    (need.count ≤ unused slab need.class + back) ⊎ (out_of slab need.class ≡ out)

-- Chunks of a class that were out were given to the slab, and no others.
pub record GivesOwn (class : ℕ) (old new : SlabState) : Type 0 where
  pub is_class : IsClass class
  pub count : ℕ
  pub some : 1 ≤ count
  pub within : count ≤ out_of old class
  pub back : new ≡ given old class count
