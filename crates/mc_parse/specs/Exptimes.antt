-- The exptimes and delays that words write.
use Rattle.std.specs.Prelude.{ℕ, ◌-◌, ◌^◌, ◌==◌, List, [], ◌∷◌, Option, Some, None, if◌then◌else◌, ℤ, pos, negsuc, neg_ℤ}
use Rattle.std.specs.Option.{option_map, option_and_then}
use Rattle.mc_protocol.specs.Numbers.{number_up_to}

-- an exptime: a number of at most 2 ^ 63 - 1, perhaps with a minus before it
abbrev pub exptime_of : List ℕ → Option ℤ
exptime_of [] = None
exptime_of (b ∷ word) =
    if b == 45 then option_map (λ n. neg_ℤ (pos n)) (number_up_to (2 ^ 63 - 1) word)
    else option_map pos (number_up_to (2 ^ 63 - 1) (b ∷ word))

-- the number, unless it is negative
abbrev pub unless_negative : ℤ → Option ℕ
unless_negative (pos n) = Some n
unless_negative (negsuc n) = None

-- a delay: an exptime that isn't negative
abbrev pub delay_of : List ℕ → Option ℕ
delay_of word = option_and_then unless_negative (exptime_of word)
