-- A shelf of no items.
use Rattle.std.specs.Prelude.{◌≡◌}
use Rattle.std.specs.FinMap.{empty}
use Rattle.mc_shelf.specs.States.{ShelfState}

-- the shelf has no items
abbrev pub IsBare : ShelfState → Type 0
IsBare shelf = (shelf.content.items ≡ empty) × (shelf.content.hashes ≡ empty)
