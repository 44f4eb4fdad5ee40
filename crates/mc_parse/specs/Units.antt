-- The units that a front of the stream spells.
use Rattle.std.specs.Prelude.{◌≡◌, ◌≢◌, ℕ, ◌+◌, ◌≤◌, ◌<◌, List, take, [], ◌∷◌, ◌++◌, length, Result, Ok, Err, Option, Some, None, if◌then◌else◌}
use Rattle.std.specs.List.{AllByRecursion}
use Rattle.std.specs.Str.{bytes_eq}
use Rattle.std.specs.Str.Lines.{strip_carriage_return}
use Rattle.mc_protocol.specs.Words.{words}
use Rattle.mc_protocol.specs.Commands.{Command, mapped, block_in}
use Rattle.mc_protocol.specs.declared.fault.LineFault.{LineFault}
use Rattle.mc_protocol.specs.declared.fault.LineFault.TheVariants.{BadChunk}
use Rattle.mc_parse.specs.Lines.{Line, meaning}

-- a unit of the protocol: a command, a fault, or a line that is too long
pub data ProtocolUnit : Type 0 where
  Request : Command → ProtocolUnit
  Fault : LineFault → ProtocolUnit
  LongLine : ProtocolUnit

-- a line of at most 65536 bytes, none of them a line feed, and the line feed that ends it
pub record IsLine (line text : List ℕ) : Type 0 where
  pub ended : line ≡ text ++ 10 ∷ []
  pub one_line : AllByRecursion (λ b. b ≢ 10) text
  pub short : length text ≤ 65536

-- the bytes begin with a line whose line feed is at end
abbrev pub HasLine : (end : ℕ) → List ℕ → Type 0
HasLine end bytes = (end < length bytes) × IsLine (take (end + 1) bytes) (take end bytes)

-- the command of a line and its block, if it has one
abbrev pub with_block : Line → List ℕ → Command
with_block line block = mapped (λ key. key) (λ keys. keys) (λ _. block) line

-- the same, or the fault if the block isn't followed by CR LF
abbrev pub stored : Line → (block end : List ℕ) → ProtocolUnit
stored line block end = if bytes_eq end (13 ∷ 10 ∷ []) then Request (with_block line block) else Fault BadChunk

-- the bytes that follow a line with a block of this length, or without one, and the unit that they
-- complete
abbrev pub CompletesBy : Option ℕ → Line → List ℕ → ProtocolUnit → Type 0
CompletesBy None line rest unit = (rest ≡ []) × (unit ≡ Request (with_block line []))
CompletesBy (Some len) line rest unit =
    (block : List ℕ) × (end : List ℕ) × (rest ≡ block ++ end) × (length block ≡ len) × (length end ≡ 2) × (unit ≡ stored line block end)

-- the bytes that follow a line of this meaning, and the unit that they complete
abbrev pub Completes : Result Line LineFault → List ℕ → ProtocolUnit → Type 0
Completes (Err fault) rest unit = (rest ≡ []) × (unit ≡ Fault fault)
Completes (Ok line) rest unit = CompletesBy (block_in line) line rest unit

-- a line, and what follows it; the carriage return before the line feed is ignored
pub record SpellsLine (greatest : ℕ) (unit : ProtocolUnit) (front : List ℕ) : Type 0 where
  pub line : List ℕ
  pub text : List ℕ
  pub rest : List ℕ
  pub parts : front ≡ line ++ rest
  pub is_line : IsLine line text
  pub completes : Completes (meaning greatest (words (strip_carriage_return text))) rest unit

-- the unit is spelled by these bytes; a charge is at most greatest
abbrev pub Spells : ℕ → ProtocolUnit → List ℕ → Type 0
Spells greatest LongLine front = (length front ≡ 65537) × AllByRecursion (λ b. b ≢ 10) front
Spells greatest (Request command) front = SpellsLine greatest (Request command) front
Spells greatest (Fault fault) front = SpellsLine greatest (Fault fault) front
