-- Definitions for the laws of the plain world: events that decide no step, and the replies to a
-- session's steps.
use Rattle.std.specs.Prelude.{◌≡◌, ◌⊎◌, ◌↔◌, ◌<◌, ℕ, ◌==◌, Bool, false, List, [], ◌∷◌, ◌++◌, length, filter, Option, Some, None, IfSome, slice_get}
use Rattle.std.specs.Bool.{MatchBool}
use Rattle.std.specs.Option.{MatchOption}
use Rattle.mc_protocol.specs.Commands.{steps}
use Rattle.mc_protocol.specs.Plain.{plain, Outcome, Answered, Spent}
use Rattle.mc_protocol.specs.declared.step.KeyStep.{KeyStep}
use Rattle.mc_protocol.specs.declared.reply.Reply.{Reply}
use Rattle.mc_parse.specs.Units.{ProtocolUnit, Request, Fault, LongLine, Spells}
use Rattle.mc_parse.specs.Streams.{AreUnits}
use Rattle.mc_parse.specs.Feeds.{Unread, settled, pushed}
use Rattle.mc_session.specs.Turns.{to_read, HasUnits}
use Rattle.mc_world.specs.Connections.{Connection, IsNextTurn, HasNoNext}
use Rattle.mc_world.specs.Worlds.{PlainWorld, numbered, open_connection, named, Happens, Runs}
use Rattle.mc_world.specs.declared.event.Event.{Event}
use Rattle.mc_world.specs.declared.event.Event.TheVariants.{Open, Piece, Turn, Clock, Grow, Purge, Close}

-- the step of a unit's turn: a fault, a line that is too long, version and quit have none
abbrev pub step_of : ProtocolUnit → (at : ℕ) → Option KeyStep
step_of (Request command) at = slice_get (steps command) at
step_of (Fault fault) at = None
step_of LongLine at = None

-- the connection's next turn has no step, if there is a next turn
abbrev pub NextHasNoStep : Connection → Type 0
NextHasNoStep connection = (unit : ProtocolUnit) (at : ℕ) → IsNextTurn connection unit at
    → step_of unit at ≡ None

-- the event is one of that session and decides no step there: a piece, a close, or a turn that
-- isn't due or has no step
abbrev pub DecidesNoStep : PlainWorld → Event → ℕ → Type 0
DecidesNoStep world Open n = ⊥
DecidesNoStep world (Piece k piece) n = k ≡ n
DecidesNoStep world (Turn k) n = (k ≡ n)
    × IfSome (open_connection n world.connections) NextHasNoStep
DecidesNoStep world (Clock now) n = ⊥
DecidesNoStep world (Grow shelf) n = ⊥
DecidesNoStep world (Purge shelf) n = ⊥
DecidesNoStep world (Close k) n = k ≡ n

-- the event opens no session, and isn't one of that session
abbrev pub IsApart : Event → ℕ → Type 0
IsApart event n = (event ≡ Open → ⊥) × (named event ≡ Some n → ⊥)

-- a run of the first list is a run of the second
abbrev pub RunAlike : List Event → List Event → Type 0
RunAlike some others = (hash : List ℕ → ℕ) (shelves : ℕ) (old new : PlainWorld)
    → Runs hash shelves old some new ↔ Runs hash shelves old others new

-- the event is one of that session and decides no step there, wherever the front leads to
abbrev pub DecidesNoStepBehind : (hash : List ℕ → ℕ) (shelves : ℕ) (old : PlainWorld) → List Event
    → Event → ℕ → Type 0
DecidesNoStepBehind hash shelves old front event n = (world : PlainWorld)
    → Runs hash shelves old front world → DecidesNoStep world event n

-- the answer to a step: the plain machine's reply, or that its unique numbers are used up
pub data Answer : Type 0 where
  Replied : Reply → Answer
  NumbersSpent : Answer

-- the answer of a step with this outcome
abbrev pub answer_in : Outcome → Answer
answer_in (Answered reply new) = Replied reply
answer_in Spent = NumbersSpent

-- a turn with a step has one answer, and one without has none
abbrev pub answers_in : PlainWorld → Option KeyStep → List Answer
answers_in world None = []
answers_in world (Some step) = answer_in (plain world.state step world.now) ∷ []

-- the answer to the connection's next turn in this world
abbrev pub AnswersNext : PlainWorld → Connection → List Answer → Type 0
AnswersNext world connection answers =
    (HasNoNext connection × (answers ≡ []))
    ⊎ ((unit : ProtocolUnit) × (at : ℕ) × IsNextTurn connection unit at
    × (answers ≡ answers_in world (step_of unit at)))

-- the answer to the event, if it is a turn of that session
abbrev pub AnswersOf : ℕ → PlainWorld → Event → List Answer → Type 0
AnswersOf n world Open answers = answers ≡ []
AnswersOf n world (Piece k piece) answers = answers ≡ []
AnswersOf n world (Turn k) answers =
    MatchBool (k == n)
    (MatchOption (open_connection n world.connections) (answers ≡ [])
    (λ connection. AnswersNext world connection answers)) (answers ≡ [])
AnswersOf n world (Clock now) answers = answers ≡ []
AnswersOf n world (Grow shelf) answers = answers ≡ []
AnswersOf n world (Purge shelf) answers = answers ≡ []
AnswersOf n world (Close k) answers = answers ≡ []

-- The hash of keys, the number of shelves, and a session's number.
module _ (hash : List ℕ → ℕ) (shelves : ℕ) (n : ℕ) where
  -- events in order, with these answers to the steps of that session
  abbrev pub RunsAnswering : PlainWorld → List Event → List Answer → PlainWorld → Type 0
  RunsAnswering old [] answers new = (new ≡ old) × (answers ≡ [])
  RunsAnswering old (event ∷ events) answers new =
      (mid : PlainWorld) × (first : List Answer) × (others : List Answer)
      × Happens hash shelves old event mid × AnswersOf n old event first
      × RunsAnswering mid events others new × (answers ≡ first ++ others)

-- the session is there at the end of a run, with some answers to its steps
abbrev pub HasAnswers : (hash : List ℕ → ℕ) (shelves n : ℕ) → PlainWorld → List Event → PlainWorld
    → Type 0
HasAnswers hash shelves n old events new =
    (answers : List Answer) × (last : Connection)
    × RunsAnswering hash shelves n old events answers new
    × (numbered n new.connections ≡ Some last)

-- whether this is that number
abbrev pub is_number : ℕ → Option ℕ → Bool
is_number n None = false
is_number n (Some k) = k == n

-- the events of that session, in order
abbrev pub events_of : ℕ → List Event → List Event
events_of n events = filter (λ event. is_number n (named event)) events

-- A run of some world leaves the session with this last connection, given this first one, its own
-- events, and the answers to its steps.
pub record Leaves (n : ℕ) (first : Connection) (own : List Event) (answers : List Answer)
    (last : Connection) : Type 0 where
  pub hash : List ℕ → ℕ
  pub shelves : ℕ
  pub old : PlainWorld
  pub new : PlainWorld
  pub events : List Event
  pub begins : numbered n old.connections ≡ Some first
  pub has : events_of n events ≡ own
  pub runs : RunsAnswering hash shelves n old events answers new
  pub ends : numbered n new.connections ≡ Some last

-- The laws of the grammar and of sessions that the proofs here use: no spelling is the beginning of
-- another, and each has a byte; a stream has one list of units; and it makes no difference where a
-- stream is cut and how early bytes are skipped.
pub record Grammar : Type 0 where
  pub apart : (greatest : ℕ) (u v : ProtocolUnit) (a b x y : List ℕ) → Spells greatest u a
      → Spells greatest v b → a ++ x ≡ b ++ y → (u ≡ v) × (a ≡ b)
  pub byte : (greatest : ℕ) (unit : ProtocolUnit) (front : List ℕ) → Spells greatest unit front
      → 0 < length front
  pub some : (greatest passed : ℕ) (bytes : List ℕ) → (units : List ProtocolUnit)
      × AreUnits greatest passed bytes units
  pub same : (greatest passed : ℕ) (bytes : List ℕ) (units others : List ProtocolUnit)
      → AreUnits greatest passed bytes units → AreUnits greatest passed bytes others
      → units ≡ others
  pub cut : (unread : Unread) (piece more : List ℕ)
      → pushed (pushed unread piece) more ≡ pushed unread (piece ++ more)
  pub early : (unread : Unread) → to_read (settled unread) ≡ to_read unread
  pub early_units : (unread : Unread) (units : List ProtocolUnit) → HasUnits (settled unread) units
      ↔ HasUnits unread units
