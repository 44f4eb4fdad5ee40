-- From when on items may be dead.
use Rattle.std.specs.Prelude.{◌≡◌, ℕ, List, Option, Some, true, false}
use Rattle.std.specs.FinMap.{get}
use Rattle.mc_time.specs.Death.{is_dead}
use Rattle.mc_protocol.specs.Plain.{Items, Entry}
use Rattle.mc_shelf.specs.declared.soonest.Soonest.{Soonest}

-- the item is dead only if one of that expiry and that moment of a write is, whatever flush there
-- is
abbrev pub DiesNoSooner : Soonest → Entry → Type 0
DiesNoSooner soonest item =
    (cut : Option ℕ) (now : ℕ) → is_dead item.expiry item.updated cut now ≡ true
    → is_dead soonest.expiry soonest.updated cut now ≡ true

-- so are all items
abbrev pub DieNoSooner : Soonest → Items → Type 0
DieNoSooner soonest items =
    (key : List ℕ) (item : Entry) → get items key ≡ Some item → DiesNoSooner soonest item

-- no item is dead at the moment
abbrev pub NoneIsDead : (now : ℕ) → (cut : Option ℕ) → Items → Type 0
NoneIsDead now cut items =
    (key : List ℕ) (item : Entry) → get items key ≡ Some item
    → is_dead item.expiry item.updated cut now ≡ false
