-- The items that the plain store's map holds.
use Rattle.std.specs.Prelude.{ℕ, List, map}
use Rattle.std.specs.declared.vec.Vec.{Vec}
use Rattle.std.specs.declared.alloc.Global.{Global}
use Rattle.std.specs.FinMap.{from_entries}
use Rattle.mc_protocol.specs.Plain.{Items, Entry}

-- the items of the map's entries
abbrev pub items_of : List (Vec ℕ Global × Entry) → Items
items_of entries = from_entries (map (λ e. (e.0.items, e.1)) entries)
