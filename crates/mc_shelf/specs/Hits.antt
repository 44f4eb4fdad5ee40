-- What a read finds under its key, and what it does there.
use Rattle.std.specs.Prelude.{ℕ, List, Bool, true, false, Option, Some, None, if◌then◌else◌}
use Rattle.mc_time.specs.declared.expiry.Expiry.{Expiry}
use Rattle.mc_time.specs.Death.{expiry_of, is_dead}
use Rattle.mc_protocol.specs.declared.step.KeyStep.{KeyStep}
use Rattle.mc_protocol.specs.declared.step.KeyStep.TheVariants.{Read, ReadTouch}
use Rattle.mc_protocol.specs.Plain.{Entry}
use Rattle.mc_shelf.specs.declared.hit.Found.{Found}
use Rattle.mc_shelf.specs.declared.hit.Found.TheVariants.{Nothing, Dead, Standing}

-- a step reads an item: get and gets, gat and gats
abbrev pub is_read : KeyStep → Bool
is_read (Read key) = true
is_read (ReadTouch key exptime) = true
is_read step = false

-- the expiry that a read sets, if it sets one
abbrev pub read_expiry : KeyStep → (now : ℕ) → Option Expiry
read_expiry (ReadTouch key exptime) now = Some (expiry_of exptime now)
read_expiry step now = None

-- what a search finds, by the item that is under the key
abbrev pub found_of : (cut : Option ℕ) → (now : ℕ) → (key : List ℕ) → Option Entry → Found
found_of cut now key None = Nothing
found_of cut now key (Some item) =
    if is_dead item.expiry item.updated cut now then Dead
    else Standing (record { key = key; item = item })
