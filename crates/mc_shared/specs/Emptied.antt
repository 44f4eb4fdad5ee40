-- Shelves that are flushed: emptied at once, or with their parts flushed.
use Rattle.std.specs.Prelude.{◌≡◌, ℕ, ◌*◌, ◌≤◌, List, [], map, length, Some, IfSome, slice_get, vec_len, vec_capacity}
use Rattle.std.specs.List.{All}
use Rattle.mc_time.specs.Death.{moment_named}
use Rattle.mc_protocol.specs.Plain.{Plain, flushed}
use Rattle.mc_shelf.specs.Bare.{IsBare}
use Rattle.mc_shelf.specs.Parts.{ArePartsOf}
use Rattle.mc_shelf.specs.States.{ShelfState, DeskState, nothing_held}
use Rattle.mc_shared.specs.declared.flush.Fresh.{Fresh}
use Rattle.mc_shared.specs.declared.flush.FlushRoom.{FlushRoom}

-- an empty shelf for each of so many, and room for four times as many, which are laid aside
abbrev pub IsFresh : ℕ → Fresh → Type 0
IsFresh count fresh =
    (vec_len fresh.shelves ≡ count) × All IsBare fresh.shelves.items
    × (fresh.aside.items ≡ []) × (vec_capacity fresh.aside ≡ 4 * count)

-- room for so many shelves, and an empty one for each if the flush is an immediate one
pub record IsRoomFor (count delay : ℕ) (room : FlushRoom) : Type 0 where
  pub number : room.count ≡ count
  pub none : room.held.items ≡ []
  pub fits : room.count ≤ vec_capacity room.held
  pub fresh : IfSome room.fresh (IsFresh room.count)
  pub at_once : IfSome room.fresh (λ _. delay ≡ 0)

-- shelves and a desk that are the parts of some state
abbrev pub AreParts : List ShelfState → DeskState → Type 0
AreParts shelves desk = (hash_of : List ℕ → ℕ) × (state : Plain) × (count : ℕ)
    × ArePartsOf hash_of state shelves count desk

-- of each state that they were the parts of, they become the parts of what a flush leaves
abbrev pub AreFlushedParts
    : (delay now : ℕ) → List ShelfState → DeskState → List ShelfState → DeskState → Type 0
AreFlushedParts delay now shelves desk shelves' desk' =
    (hash_of : List ℕ → ℕ) (state : Plain) (count : ℕ) → ArePartsOf hash_of state shelves count desk
    → ArePartsOf hash_of (flushed delay state now) shelves' count desk'

-- the shelf is empty, and has the greatest charge of the shelf at that place before
pub record IsEmptied (old : List ShelfState) (at : ℕ) (shelf : ShelfState) : Type 0 where
  pub was : ShelfState
  pub there : slice_get old at ≡ Some was
  pub holds : shelf.content ≡ nothing_held was.content.greatest

-- all shelves are
pub record AreEmptied (old new : List ShelfState) : Type 0 where
  pub number : length new ≡ length old
  pub each : (at : ℕ) (shelf : ShelfState) → slice_get new at ≡ Some shelf → IsEmptied old at shelf

-- a shelf with the moment of a flush, and all else as it was
abbrev pub cut_later : (delay now : ℕ) → ShelfState → ShelfState
cut_later delay now shelf =
    record shelf { content = record shelf.content { cut = Some (moment_named delay now) } }

-- all shelves have it, and all else of each is as it was
abbrev pub AreCutLater : (delay now : ℕ) → (old new : List ShelfState) → Type 0
AreCutLater delay now old new = new ≡ map (cut_later delay now) old
