-- What stands under a key, as it is lent.
use Rattle.std.specs.Prelude.{Option, Some, None}
use Rattle.std.specs.Borrow.{Bor}
use Rattle.mc_protocol.specs.Plain.{Entry}

-- the item of what stands, if something does
abbrev pub standing_in : {T : Type 0} → (T → Entry) → Option (Bor T) → Option Entry
standing_in item_of None = None
standing_in item_of (Some found) = Some (item_of found.now)
