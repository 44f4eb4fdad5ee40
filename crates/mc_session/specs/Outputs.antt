-- What an output keeps, and what was appended to it.
use Rattle.std.specs.Prelude.{◌≡◌, ℕ, List, length, take}

-- the most memory in bytes that an empty output keeps
abbrev pub kept_output : ℕ
kept_output = 131072

-- the new bytes begin with the old
abbrev pub IsBegun : (old new : List ℕ) → Type 0
IsBegun old new = take (length old) new ≡ old

-- an output: the bytes that aren't written yet, and how many of them are lent
pub record OutputState : Type 0 where
  pub bytes : List ℕ
  pub lent : ℕ
