-- Which places are looked at, and when.
use Rattle.std.specs.Prelude.{ℕ, Bool, ◌+◌, ◌-◌, ◌*◌, ◌/◌, ◌^◌, nat_lt, min, max, if◌then◌else◌, MatchBool, Option, Some, None}
use Rattle.std.specs.Time.{instant_nanos}
use Rattle.std.specs.declared.time.Instant.{Instant}

-- the nanoseconds since the last look; a second before the first
abbrev pub since_look : Option Instant → Instant → ℕ
since_look None now = 1_000_000_000
since_look (Some looked) now = instant_nanos now - instant_nanos looked

-- the share of the places that a time in nanoseconds is worth: a thousandth a millisecond, and all for
-- a second or more
abbrev pub worth : (places nanos : ℕ) → ℕ
worth places nanos =
    if nat_lt nanos 1_000_000_000 then min (places * (nanos / 1_000_000)) (2 ^ 64 - 1) / 1000 else places

-- it is too soon for a look, an eighth of a second after the last
abbrev pub is_too_soon : Option Instant → Instant → Bool
is_too_soon looked now = nat_lt (since_look looked now) 125_000_000

-- how many of the places are looked at now: their share, and no fewer than 256 if there are as many
abbrev pub due : Option Instant → Instant → (places : ℕ) → ℕ
due looked now places =
    if is_too_soon looked now then 0 else min (max (worth places (since_look looked now)) 256) places

-- the ticks of 250 ms that a time in nanoseconds is, at most two: a pause of the process counts as no more
abbrev pub ticks_in : (nanos : ℕ) → ℕ
ticks_in nanos = if nat_lt nanos 250_000_000 then 0 else if nat_lt nanos 500_000_000 then 1 else 2

-- the ticks of a worker after a look at the clock; before the first look none has passed
abbrev pub ticks_after : Option Instant → (ticks : ℕ) → Instant → ℕ
ticks_after None ticks now = ticks
ticks_after (Some ticked) ticks now = min (ticks + ticks_in (instant_nanos now - instant_nanos ticked)) (2 ^ 64 - 1)

-- when a tick was last counted; the first look begins the first
abbrev pub ticked_after : Option Instant → Instant → Instant
ticked_after None now = now
ticked_after (Some ticked) now = if nat_lt (instant_nanos now - instant_nanos ticked) 250_000_000 then ticked else now

-- the place in turn, behind the last: the first again behind all
abbrev pub turn : (at places : ℕ) → ℕ
turn at places = if nat_lt at places then at else 0

-- What is done if the last poll reported all events there were: fewer than it had room for. Before the first poll nothing is done.
abbrev pub IfAllHeard : (heard most : ℕ) (polled : Option Instant) (done : Instant → Type 0) (nothing : Type 0) → Type 0
IfAllHeard heard most None done nothing = nothing
IfAllHeard heard most (Some before) done nothing = MatchBool (nat_lt heard most) (done before) nothing
