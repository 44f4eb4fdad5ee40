-- What a purge and a flush make of a shelf.
use Rattle.std.specs.Prelude.{◌≡◌, ℕ, ◌+◌, ◌≤◌, List, [], ◌∷◌, None, is_some, if◌then◌else◌}
use Rattle.std.specs.FinMap.{get}
use Rattle.mc_slab.specs.Classes.{IsClass}
use Rattle.mc_slab.specs.Chunks.{ChunksState, need_in}
use Rattle.mc_slab.specs.Slabs.{out_of}
use Rattle.mc_protocol.specs.Plain.{Items, chunks_in, count_of, living}
use Rattle.mc_shelf.specs.States.{ShelfContent, DeskState}
use Rattle.mc_shelf.specs.declared.purge.Purging.{Purging}
use Rattle.mc_shelf.specs.declared.purge.Purging.TheVariants.{Apart, Whole}

-- the shelf's items lie in chunks that are out
abbrev pub AreOut : ShelfContent → DeskState → Type 0
AreOut shelf desk = (class : ℕ) → IsClass class → count_of shelf.items class ≤ out_of desk.slab class

-- of each class as many chunks go back as items of it are dropped, and nothing else of the desk changes
pub record GivesFor (old new : Items) (desk desk' : DeskState) : Type 0 where
  pub out : (class : ℕ) → IsClass class → out_of desk'.slab class + count_of old class ≡ out_of desk.slab class + count_of new class
  pub pages : desk'.slab.pages ≡ desk.slab.pages
  pub limit : desk'.slab.limit ≡ desk.slab.limit
  pub next_unique : desk'.next_unique ≡ desk.next_unique

-- the dead items of a moment are gone, and nothing else; the items that are left keep their hashes
pub record IsPurged (now : ℕ) (old new : ShelfContent) : Type 0 where
  pub greatest : new.greatest ≡ old.greatest
  pub cut : new.cut ≡ old.cut
  pub items : new.items ≡ living old.items old.cut now
  pub hashes : (key : List ℕ) → get new.hashes key ≡ (if is_some (get new.items key) then get old.hashes key else None)

-- how many of these chunks are of a class
abbrev pub count_among : List ChunksState → (class : ℕ) → ℕ
count_among [] class = 0
count_among (chunks ∷ others) class = chunks_in (need_in chunks) class + count_among others class

-- the dead items of a moment were taken off a shelf, and these chunks are theirs
pub record TakesDead (now : ℕ) (old : ShelfContent) (chunks : List ChunksState) (new : ShelfContent)
    : Type 0 where
  pub purged : IsPurged now old new
  pub counts : (class : ℕ) → count_among chunks class + count_of new.items class ≡ count_of old.items class

-- How a purge begins with the shelf alone: the dead items are off it, and their chunks wait for the
-- desk; or all is still to be done.
abbrev pub BeginsPurge : (now : ℕ) → (old : ShelfContent) → Purging → (new : ShelfContent) → Type 0
BeginsPurge now old (Apart chunks) new = TakesDead now old chunks.items new
BeginsPurge now old Whole new = new ≡ old

-- these chunks are out no more, and nothing else of the desk changes
pub record TakesBack (chunks : List ChunksState) (desk desk' : DeskState) : Type 0 where
  pub out : (class : ℕ) → IsClass class → out_of desk'.slab class + count_among chunks class ≡ out_of desk.slab class
  pub pages : desk'.slab.pages ≡ desk.slab.pages
  pub limit : desk'.slab.limit ≡ desk.slab.limit
  pub next_unique : desk'.next_unique ≡ desk.next_unique
