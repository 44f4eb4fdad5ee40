-- The moments of a clock that may be asked to stand.
use Rattle.std.specs.Prelude.{◌≡◌, ℕ, Option, Some, None}

-- the moments of the clock that is asked for: one that stands, or the system's
abbrev pub moments : Option ℕ → (ℕ → Type 0) → ℕ → Type 0
moments (Some moment) system now = now ≡ moment
moments None system now = system now
