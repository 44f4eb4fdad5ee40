-- An output with parts that are lent.
use Rattle.std.specs.Prelude.{ℕ, ◌<◌, ◌≤◌, ◌^◌, List, [], ◌++◌, length, Option, None, Some}
use Rattle.std.specs.declared.boxed.Box.{Box}
use Rattle.mc_session.specs.declared.lent_output.Behind.{Behind}

-- the bytes behind the head of an output: those of the parts that are lent, and the texts behind
abbrev pub behind_bytes : {Z : Type 0} → Option (Box Behind Z) → List ℕ
behind_bytes None = []
behind_bytes (Some behind) = behind.value.parts ++ behind.value.tail.bytes

-- how many of these are lent
abbrev pub lent_in : {Z : Type 0} → Option (Box Behind Z) → ℕ
lent_in None = 0
lent_in (Some behind) = length behind.value.parts

-- texts, the parts that are lent behind them, and the texts behind these
abbrev pub all_bytes : (head : List ℕ) → Behind → List ℕ
all_bytes head behind = head ++ (behind.parts ++ behind.tail.bytes)

-- there are bytes that are lent, and few texts in front of them, or no parts
abbrev pub IsArranged : {Z : Type 0} → (head : List ℕ) → Option (Box Behind Z) → Type 0
IsArranged head None = Unit {0}
IsArranged head (Some behind) = (0 < length behind.value.parts) × (length head ≤ 2 ^ 62)
