-- What shelves that share a desk are together.
use Rattle.std.specs.Prelude.{◌≡◌, ℕ, ◌==◌, List, [], ◌∷◌, ◌++◌, map, Option, Some, None, if◌then◌else◌}
use Rattle.std.specs.FinMap.{entries, from_entries, get}
use Rattle.mc_time.specs.Death.{moment_named}
use Rattle.mc_protocol.specs.Plain.{Items, Entry, Plain, alive}
use Rattle.mc_shelf.specs.States.{ShelfContent, ShelfState, DeskState}
use Rattle.mc_sizes.specs.declared.settings.Settings.{Settings}

-- the items of all shelves under their keys, one shelf's after another's
abbrev pub all_entries : List ShelfState → List (List ℕ × Entry)
all_entries [] = []
all_entries (shelf ∷ shelves) = entries shelf.content.items ++ all_entries shelves

-- the same as one map
abbrev pub all_items : List ShelfState → Items
all_items shelves = from_entries (all_entries shelves)

-- the flush of the first shelf, which is that of all
abbrev pub cut_of : List ShelfState → Option ℕ
cut_of [] = None
cut_of (shelf ∷ shelves) = shelf.content.cut

-- the plain machine's state that shelves and their desk keep, by the settings of their store
abbrev pub plain_of : Settings → List ShelfState → DeskState → Plain
plain_of settings shelves desk = record {
  greatest = settings.greatest;
  limit = settings.pages;
  items = all_items shelves;
  cut = cut_of shelves;
  next_unique = desk.next_unique;
  pages = desk.slab.pages;
}

-- of each shelf, how many entries of an old table are left to move
abbrev pub lefts : List ShelfState → List ℕ
lefts shelves = map (λ shelf. shelf.left) shelves

-- what a flush leaves of an item that stands under a key
abbrev pub left_of_flush : (delay now : ℕ) → (cut : Option ℕ) → Option Entry → Option Entry
left_of_flush delay now cut item = if delay == 0 then None else alive cut now item

-- a shelf was flushed as the plain machine's state is
pub record IsFlushed (delay now : ℕ) (old new : ShelfContent) : Type 0 where
  pub greatest : new.greatest ≡ old.greatest
  pub cut : new.cut ≡ (if delay == 0 then None else Some (moment_named delay now))
  pub items : (key : List ℕ)
      → get new.items key ≡ left_of_flush delay now old.cut (get old.items key)
  pub hashes : (key : List ℕ) (stored : ℕ) → get new.hashes key ≡ Some stored
      → get old.hashes key ≡ Some stored
