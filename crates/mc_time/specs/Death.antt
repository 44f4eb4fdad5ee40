-- When an item's time is over.
use Rattle.std.specs.Prelude.{ℕ, ℤ, pos, negsuc, ◌+◌, ◌==◌, ◌&&◌, ◌||◌, Bool, false, Option, Some, None, nat_le, nat_lt, if◌then◌else◌}
use Rattle.mc_time.specs.declared.expiry.Expiry.{Expiry}
use Rattle.mc_time.specs.declared.expiry.Expiry.TheVariants.{Never, At}

-- the moment that a number above 0 names: up to 30 days it counts from now, above that it is a Unix time
abbrev pub moment_named : ℕ → ℕ → ℕ
moment_named number now = if nat_le number 2592000 then now + number else number

-- the expiry that an exptime names at a moment: 0 is never, and a negative one is over at every moment
abbrev pub expiry_of : ℤ → ℕ → Expiry
expiry_of (pos number) now = if number == 0 then Never else At (moment_named number now)
expiry_of (negsuc number) now = At 0

-- the expiry has come
abbrev pub is_expired : Expiry → ℕ → Bool
is_expired Never now = false
is_expired (At moment) now = nat_le moment now

-- a flush has come that the item was updated before
abbrev pub is_flushed : ℕ → Option ℕ → ℕ → Bool
is_flushed updated None now = false
is_flushed updated (Some cut) now = nat_le cut now && nat_lt updated cut

-- an item is dead if its expiry has come, or a flush that it was updated before
abbrev pub is_dead : Expiry → ℕ → Option ℕ → ℕ → Bool
is_dead expiry updated cut now = is_expired expiry now || is_flushed updated cut now
