-- The units of a stream.
use Rattle.std.specs.Prelude.{◌≡◌, ℕ, Bool, true, false, List, [], ◌∷◌, ◌++◌, drop}
use Rattle.std.specs.Bool.{MatchBool}
use Rattle.mc_protocol.specs.Commands.{Command}
use Rattle.mc_protocol.specs.Commands.{Shape, Single, Retrieval, Alone, shape}
use Rattle.mc_protocol.specs.Lones.{closes}
use Rattle.mc_protocol.specs.declared.fault.LineFault.{LineFault}
use Rattle.mc_protocol.specs.declared.fault.LineFault.TheVariants.{Unknown, BadFormat, BadDelta, TooLarge, BadChunk}
use Rattle.mc_parse.specs.Units.{ProtocolUnit, Request, Fault, LongLine, Spells}
use Rattle.mc_parse.specs.Peeks.{BeginsWithNone}

-- a command of a shape ends its stream
abbrev pub is_quit_by : Shape → Bool
is_quit_by (Single step has_block quiet) = false
is_quit_by (Retrieval exptime keys with_unique) = false
is_quit_by (Alone lone) = closes lone

-- a command ends its stream
abbrev pub is_quit : Command → Bool
is_quit command = is_quit_by (shape command)

-- a unit that ends its stream: quit, and a line that is too long
abbrev pub is_last : ProtocolUnit → Bool
is_last (Request command) = is_quit command
is_last (Fault fault) = false
is_last LongLine = true

-- how many bytes a fault skips behind its line
abbrev pub fault_passes : LineFault → ℕ
fault_passes (TooLarge passed) = passed
fault_passes Unknown = 0
fault_passes BadFormat = 0
fault_passes BadDelta = 0
fault_passes BadChunk = 0

-- how many bytes are skipped after a unit
abbrev pub passed_after : ProtocolUnit → ℕ
passed_after (Request command) = 0
passed_after (Fault fault) = fault_passes fault
passed_after LongLine = 0

-- These are the units of a stream with `passed` bytes still to be skipped. A front of the rest
-- spells the first unit, and what follows it has the others; after the last unit nothing is read.
-- There are none if no front spells anything.
abbrev pub AreUnits : (greatest passed : ℕ) → List ℕ → List ProtocolUnit → Type 0
AreUnits greatest passed bytes [] = BeginsWithNone greatest (drop passed bytes)
AreUnits greatest passed bytes (unit ∷ units) =
    (front : List ℕ) × (rest : List ℕ) × (drop passed bytes ≡ front ++ rest) × Spells greatest unit front
    × MatchBool (is_last unit) (units ≡ []) (AreUnits greatest (passed_after unit) rest units)
