-- Which limits of the stack are too small.
use Rattle.std.specs.Prelude.{ℕ, Bool, false, Option, Some, None, nat_lt}

-- a limit below 512 KiB
abbrev pub is_small : Option ℕ → Bool
is_small (Some bytes) = nat_lt bytes 524288
is_small None = false
