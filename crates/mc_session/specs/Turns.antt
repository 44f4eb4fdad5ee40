-- The turns of a session.
use Rattle.std.specs.Prelude.{◌≡◌, ◌⊎◌, ℕ, zero, suc, ◌+◌, ◌<◌, ◌==◌, Bool, true, false, List, [], ◌∷◌, ◌++◌, length, drop, max, if◌then◌else◌, Some, IsTrue, IsFalse, slice_get, MatchOption}
use Rattle.mc_protocol.specs.Commands.{steps}
use Rattle.mc_protocol.specs.Commands.{Command}
use Rattle.mc_protocol.specs.declared.step.KeyStep.{KeyStep}
use Rattle.mc_protocol.specs.declared.step.Steps.{Ghosts as Relations}
use Rattle.mc_protocol.specs.declared.reply.Reply.{Reply}
use Rattle.mc_parse.specs.Units.{ProtocolUnit, Request, Fault, LongLine, Spells}
use Rattle.mc_parse.specs.Peeks.{BeginsWithNone}
use Rattle.mc_parse.specs.Streams.{AreUnits, is_last, passed_after}
use Rattle.mc_parse.specs.Feeds.{Unread, pushed, settled}
use Rattle.mc_reply.specs.Texts.{reply_text, plain_text, fault_text, long_text, spent_text}

-- what contracts see of a session: the unread part of its stream, the number of turns taken of its
-- first unit, its output, and whether it is open
pub record SessionState : Type 0 where
  pub unread : Unread
  pub taken : ℕ
  pub out : List ℕ
  pub is_open : Bool

-- what is to be read: the unread bytes without those to be skipped
abbrev pub to_read : Unread → List ℕ
to_read unread = drop unread.passed unread.bytes

-- these are its units
abbrev pub HasUnits : Unread → List ProtocolUnit → Type 0
HasUnits unread units = AreUnits unread.greatest unread.passed unread.bytes units

-- the number of turns of a unit: one for each step of a command, and at least one
abbrev pub turn_count : ProtocolUnit → ℕ
turn_count (Request command) = max 1 (length (steps command))
turn_count (Fault fault) = 1
turn_count LongLine = 1

-- `count` turns of a unit, from turn `at` on
abbrev pub turns_from : ProtocolUnit → (at count : ℕ) → List (ProtocolUnit × ℕ)
turns_from unit at zero = []
turns_from unit at (suc count) = (unit, at) ∷ turns_from unit (at + 1) count

-- the turns of units: each unit's turns, in order
abbrev pub turns : List ProtocolUnit → List (ProtocolUnit × ℕ)
turns [] = []
turns (unit ∷ units) = turns_from unit 0 (turn_count unit) ++ turns units

module _ {S : Type 0} (relations : Relations S) where
  -- a step has the text of its reply, or its unique numbers are used up
  abbrev pub AnswersStep : Command → ℕ → KeyStep → ℕ → S → S → List ℕ → Type 0
  AnswersStep command at step now before after text =
      ((reply : Reply) × relations.took before step now reply after
      × (text ≡ reply_text command at reply))
      ⊎ (relations.spent before step now × relations.same before after
      × (text ≡ spent_text command))

  -- turn `at` of a unit at a moment takes the store from before to after, and has this text
  abbrev pub Answers : ProtocolUnit → ℕ → ℕ → S → S → List ℕ → Type 0
  Answers (Request command) at now before after text =
      MatchOption (slice_get (steps command) at) ((text ≡ plain_text command) × (after ≡ before))
      (λ step. AnswersStep command at step now before after text)
  Answers (Fault fault) at now before after text = (text ≡ fault_text fault) × (after ≡ before)
  Answers LongLine at now before after text = (text ≡ long_text) × (after ≡ before)

-- nothing is unread
abbrev pub nothing_unread : ℕ → Unread
nothing_unread greatest = record { greatest = greatest; passed = 0; bytes = [] }

-- a session without bytes
abbrev pub opened : ℕ → SessionState
opened greatest = record { unread = nothing_unread greatest; taken = 0; out = []; is_open = true }

-- a closed session keeps only its output
abbrev pub closed : SessionState → SessionState
closed s = record (opened s.unread.greatest) { out = s.out; is_open = false }

-- an open session takes a piece of its stream
abbrev pub fed : SessionState → List ℕ → SessionState
fed s piece = if s.is_open then record s { unread = pushed s.unread piece } else s

-- the session was fed a piece; an empty piece changes nothing
abbrev pub FedPiece : (old new : SessionState) → List ℕ → Type 0
FedPiece old new piece = (new ≡ fed old piece) × (piece ≡ [] → new ≡ old)

-- this many bytes of the output were written
abbrev pub sent : SessionState → ℕ → SessionState
sent s n = record s { out = drop n s.out }

-- what is unread behind a unit, with these bytes
abbrev pub unread_behind : (greatest : ℕ) → ProtocolUnit → (rest : List ℕ) → Unread
unread_behind greatest unit rest =
    settled (record { greatest = greatest; passed = passed_after unit; bytes = rest })

-- The session after a turn of a unit: its text is appended. With the last turn of the unit the unit
-- is read, and the bytes that it skips are dropped as they come; with the last unit of the stream
-- the session is closed.
abbrev pub moved : SessionState → ProtocolUnit → List ℕ → List ℕ → SessionState
moved s unit rest text =
    if is_last unit then closed (record s { out = s.out ++ text })
    else if s.taken + 1 == turn_count unit then
    record s { unread = unread_behind s.unread.greatest unit rest; taken = 0; out = s.out ++ text }
    else record s { taken = s.taken + 1; out = s.out ++ text }

-- the next turn of an open session's stream was taken at a moment, with a store
pub record TakesTurn {S : Type 0} (relations : Relations S) (now : ℕ) (old new : SessionState)
    (before after : S) : Type 0 where
  pub unit : ProtocolUnit
  pub front : List ℕ
  pub rest : List ℕ
  pub text : List ℕ
  pub opens : IsTrue old.is_open
  pub parts : to_read old.unread ≡ front ++ rest
  pub spelled : Spells old.unread.greatest unit front
  pub due : old.taken < turn_count unit
  pub answers : Answers relations unit old.taken now before after text
  pub moves : new ≡ moved old unit rest text

-- The next turn of the session's stream is a command's, and its step was taken at a moment, with a
-- store; the text of the reply is missing.
pub record DecidesStep {S : Type 0} (relations : Relations S) (now : ℕ) (old : SessionState)
    (before after : S) : Type 0 where
  pub command : Command
  pub front : List ℕ
  pub rest : List ℕ
  pub step : KeyStep
  pub reply : Reply
  pub opens : IsTrue old.is_open
  pub parts : to_read old.unread ≡ front ++ rest
  pub spelled : Spells old.unread.greatest (Request command) front
  pub is_step : slice_get (steps command) old.taken ≡ Some step
  pub took_it : relations.took before step now reply after

-- no turn is due: no front of what is to be read spells anything
abbrev pub NoTurnDue : SessionState → Type 0
NoTurnDue s = BeginsWithNone s.unread.greatest (to_read s.unread)

-- a turn is due
abbrev pub TurnIsDue : SessionState → Type 0
TurnIsDue s = IsTrue s.is_open × (NoTurnDue s → ⊥)

-- the session is open with no turn due, and nothing was done
abbrev pub FindsNoTurn : {S : Type 0} → (old new : SessionState) → (before after : S) → Type 0
FindsNoTurn old new before after = NoTurnDue old × IsTrue old.is_open × (new ≡ old)
    × (after ≡ before)

-- the session is closed, and nothing was done
abbrev pub FindsClosed : {S : Type 0} → (old new : SessionState) → (before after : S) → Type 0
FindsClosed old new before after = IsFalse old.is_open × (new ≡ old) × (after ≡ before)
