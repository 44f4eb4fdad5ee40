-- The numbers that digits write.
use Rattle.std.specs.Prelude.{ℕ, ◌&&◌, Bool, List, Option, Some, None, nat_le, if◌then◌else◌}
use Rattle.std.specs.Str.{all_ascii_digits}
use Rattle.std.specs.Str.Parse.{digits_value}
use Rattle.mc_protocol.specs.Words.{is_nonempty}

-- one or more decimal digits
abbrev pub is_numeral : List ℕ → Bool
is_numeral word = is_nonempty word && all_ascii_digits word

-- the number that the digits write, if it is at most the limit
abbrev pub number_up_to : ℕ → List ℕ → Option ℕ
number_up_to limit word =
    let value = digits_value 10 word in
    if is_numeral word && nat_le value limit then Some value else None
