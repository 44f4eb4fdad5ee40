-- How fast a guest's link moves bytes. Times are ticks.
use Rattle.std.specs.Prelude.{ℕ, ◌+◌, ◌-◌, ◌/◌, ◌^◌, ◌&&◌, ◌||◌, not, nat_lt, nat_le, min, max, Bool, false, Option, Some, None}
use Rattle.mc_guests.specs.declared.link_rate.LinkRate.{LinkRate}

-- a pace that begins now
abbrev pub begun : (ticks : ℕ) → LinkRate
begun ticks = record { since = ticks; moved = 0; heard = ticks; asked = None }

-- the link moved `bytes` bytes more
abbrev pub moves : (bytes ticks : ℕ) → LinkRate → LinkRate
moves bytes ticks pace = record pace { moved = min (pace.moved + bytes) (2 ^ 64 - 1); heard = ticks }

-- the link is asked again
abbrev pub asked_again : (ticks : ℕ) → LinkRate → LinkRate
asked_again ticks pace = record pace { asked = Some ticks }

-- the ticks since it began
abbrev pub age : (ticks : ℕ) → LinkRate → ℕ
age ticks pace = ticks - pace.since

-- the average of bytes in a tick since it began
unfoldable pub rate : (ticks : ℕ) → LinkRate → ℕ
rate ticks pace = pace.moved / max (age ticks pace) 1

-- whether a link was asked less than `within` ticks ago
abbrev pub is_recent : (within ticks : ℕ) → Option ℕ → Bool
is_recent within ticks None = false
is_recent within ticks (Some asked) = nat_lt (ticks - asked) within

-- whether the link was asked again in the last 2 s
abbrev pub was_asked : (ticks : ℕ) → LinkRate → Bool
was_asked ticks pace = is_recent 8 ticks pace.asked

-- whether the link moved nothing for this many ticks
abbrev pub was_quiet : (least ticks : ℕ) → LinkRate → Bool
was_quiet least ticks pace = nat_le least (ticks - pace.heard)

-- whether the link moved nothing for 5 s
abbrev pub is_silent : (ticks : ℕ) → LinkRate → Bool
is_silent ticks pace = was_quiet 20 ticks pace

-- at this rate, in bytes a tick, so many bytes are moved within 10 s
unfoldable pub least_rate : (held : ℕ) → ℕ
least_rate held = held / 40

-- whether the link moved so little for at least 5 s that it won't have moved so many bytes within 10 s
abbrev pub lags : (held ticks : ℕ) → LinkRate → Bool
lags held ticks pace = nat_le 20 (age ticks pace) && nat_lt (rate ticks pace) (least_rate held)

-- whether the link of a guest that holds so many bytes is slow: it is silent or lags, and wasn't asked again in the last
-- 0.5 s
abbrev pub is_slow : (held ticks : ℕ) → LinkRate → Bool
is_slow held ticks pace = (is_silent ticks pace || lags held ticks pace) && not (is_recent 2 ticks pace.asked)
