-- One turn of the unit that was found.
use Rattle.std.specs.Prelude.{◌≡◌, ℕ, ◌+◌, ◌^◌, ◌<◌, ◌≤◌, ◌==◌, List, ◌++◌, length, Option, Some, if◌then◌else◌, slice_get}
use Rattle.mc_protocol.specs.Commands.{steps}
use Rattle.mc_protocol.specs.Commands.{Command}
use Rattle.mc_protocol.specs.declared.step.KeyStep.{KeyStep}
use Rattle.mc_protocol.specs.declared.step.Steps.{Ghosts as Relations}
use Rattle.mc_protocol.specs.declared.reply.Reply.{Reply}
use Rattle.mc_parse.specs.Units.{ProtocolUnit, Request, Spells}
use Rattle.mc_parse.specs.Streams.{is_last, passed_after}
use Rattle.mc_parse.specs.Feeds.{Unread, read}
use Rattle.mc_session.specs.declared.after_turn.AfterTurn.{AfterTurn}
use Rattle.mc_session.specs.declared.after_turn.AfterTurn.TheVariants.{Step, Read, Close}
use Rattle.mc_session.specs.Turns.{SessionState, Answers, turn_count, closed, to_read}

-- what comes after turn `at` of a unit of `len` bytes
abbrev pub next_of : ProtocolUnit → (at len : ℕ) → AfterTurn
next_of unit at len =
    if is_last unit then Close
    else if at + 1 == turn_count unit then Read len (passed_after unit)
    else Step

-- the session after that
abbrev pub gone_on : AfterTurn → SessionState → SessionState
gone_on Step s = record s { taken = s.taken + 1 }
gone_on (Read len passed) s = record s { unread = read s.unread len passed; taken = 0 }
gone_on Close s = closed s

-- the first turn of the unit that was found takes the store from before to after
pub record AnswersFound {S : Type 0} (relations : Relations S) (now : ℕ)
    (found : Option (ProtocolUnit × ℕ)) (before after : S) : Type 0 where
  pub unit : ProtocolUnit
  pub len : ℕ
  pub text : List ℕ
  pub is_found : found ≡ Some (unit, len)
  pub answers : Answers relations unit 0 now before after text

-- the first step of a command takes the store from before to after
pub record TakesFirst {S : Type 0} (relations : Relations S) (now : ℕ) (command : Command)
    (before after : S) : Type 0 where
  pub step : KeyStep
  pub reply : Reply
  pub is_step : slice_get (steps command) 0 ≡ Some step
  pub took_it : relations.took before step now reply after

-- what was found is a command, and its first step takes the store from before to after
pub record DecidesFound {S : Type 0} (relations : Relations S) (now : ℕ)
    (found : Option (ProtocolUnit × ℕ)) (before after : S) : Type 0 where
  pub command : Command
  pub len : ℕ
  pub is_found : found ≡ Some (Request command, len)
  pub takes : TakesFirst relations now command before after

-- the turn is answered: its text is appended, and this comes next
pub record Tells {S : Type 0} (relations : Relations S) (now : ℕ)
    (found : Option (ProtocolUnit × ℕ)) (next : AfterTurn) (before after : S)
    (old new : List ℕ) : Type 0 where
  pub answered : AnswersFound relations now found before after
  pub next_is : next ≡ next_of answered.unit 0 answered.len
  pub few : turn_count answered.unit < 2 ^ 64
  pub told : new ≡ old ++ answered.text

-- some turns of the first unit were taken, and more are due; their number fits a counter
pub data IsWithinUnit : Unread → ℕ → Type 0 where
  at_start : {unread : Unread} → IsWithinUnit unread 0
  inside : {unread : Unread} {taken : ℕ} (unit : ProtocolUnit) (front rest : List ℕ)
      → to_read unread ≡ front ++ rest → Spells unread.greatest unit front → taken < turn_count unit
      → turn_count unit < 2 ^ 64 → IsWithinUnit unread taken

-- the session may go on so: there are that many bytes and none is to be skipped, or more turns of
-- its first unit are due
abbrev pub MayGoOn : AfterTurn → SessionState → Type 0
MayGoOn Step s = IsWithinUnit s.unread (s.taken + 1)
MayGoOn (Read len passed) s = (len ≤ length s.unread.bytes) × (s.unread.passed ≡ 0)
MayGoOn Close s = Unit {0}
