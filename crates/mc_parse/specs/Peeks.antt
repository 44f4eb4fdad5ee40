-- The result of a peek.
use Rattle.std.specs.Prelude.{◌≡◌, ℕ, ◌≤◌, List, ◌++◌, length, take, Option, Some, None, IfSome}
use Rattle.mc_protocol.specs.Commands.{after_steps, HasShortKeys}
use Rattle.mc_protocol.specs.Commands.{Command}
use Rattle.mc_parse.specs.Units.{ProtocolUnit, Request, Fault, LongLine, Spells}
use Rattle.mc_parse.specs.declared.peek.Peek.{Peek}
use Rattle.mc_parse.specs.declared.peek.Peek.TheVariants.{Whole, More, Bad, TooLong}

-- the unit, and its length in bytes
abbrev pub unit_of : Peek → Option (ProtocolUnit × ℕ)
unit_of (Whole command len) = Some (Request command, len)
unit_of More = None
unit_of (Bad fault len) = Some (Fault fault, len)
unit_of TooLong = Some (LongLine, 65537)

-- the first `found.1` bytes spell the unit
pub record IsSpelled (greatest : ℕ) (found : ProtocolUnit × ℕ) (bytes : List ℕ) : Type 0 where
  pub within : found.1 ≤ length bytes
  pub spelled : Spells greatest found.0 (take found.1 bytes)

-- no front of the bytes spells anything
pub record BeginsWithNone (greatest : ℕ) (bytes : List ℕ) : Type 0 where
  pub none : (unit : ProtocolUnit) (front more : List ℕ) → bytes ≡ front ++ more → Spells greatest unit front → ⊥

-- the unit is spelled by the front of the returned length
abbrev pub FindsSpelled : (greatest : ℕ) → Option (ProtocolUnit × ℕ) → List ℕ → Type 0
FindsSpelled greatest found bytes = IfSome found (λ f. IsSpelled greatest f bytes)

-- nothing is found only if no front spells anything
abbrev pub MissesNone : (greatest : ℕ) → Option (ProtocolUnit × ℕ) → List ℕ → Type 0
MissesNone greatest found bytes = found ≡ None → BeginsWithNone greatest bytes

-- any unit that a front spells is the one found
abbrev pub FindsWhatever : (greatest : ℕ) → Option (ProtocolUnit × ℕ) → List ℕ → Type 0
FindsWhatever greatest found bytes = (unit : ProtocolUnit) (len : ℕ) → IsSpelled greatest (unit, len) bytes → found ≡ Some (unit, len)

-- no key of a command that is found is longer than 250 bytes
abbrev pub FindsShortKeys : Option (ProtocolUnit × ℕ) → Type 0
FindsShortKeys found = (command : Command) (len : ℕ) → found ≡ Some (Request command, len) → HasShortKeys command

-- what is left of a unit after some of its turns: for a command, the command of the remaining steps
abbrev pub left_of : ProtocolUnit → ℕ → ProtocolUnit
left_of (Request command) taken = Request (after_steps command taken)
left_of (Fault fault) taken = Fault fault
left_of LongLine taken = LongLine

-- turns leave whatever the bytes begin with whole
abbrev pub StaysWhole : (greatest taken : ℕ) → List ℕ → Type 0
StaysWhole greatest taken bytes = (unit : ProtocolUnit) (len : ℕ) → IsSpelled greatest (unit, len) bytes → left_of unit taken ≡ unit

-- the first `found.1` bytes spell a unit; `found.0` is its rest after `taken` turns
pub record IsLeft (greatest taken : ℕ) (found : ProtocolUnit × ℕ) (bytes : List ℕ) : Type 0 where
  pub unit : ProtocolUnit
  pub spelled : IsSpelled greatest (unit, found.1) bytes
  pub left : found.0 ≡ left_of unit taken
