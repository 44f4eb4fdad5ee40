-- The calls of workers in one list of all callers' calls, each with its purpose.
use mathlib.Core.Logic.{inl, inr}
use Rattle.std.specs.Prelude.{◌≡◌, ◌⊎◌, ◌==◌, if◌then◌else◌, ℕ, List, [], ◌∷◌, ◌++◌, Bool, false, Option, Some, None, MatchOption, slice_get}
use Rattle.mc_protocol.specs.Commands.{Command, steps}
use Rattle.mc_protocol.specs.declared.step.KeyStep.{KeyStep}
use Rattle.mc_protocol.specs.declared.step.KeyStep.TheVariants.{Read}
use Rattle.mc_parse.specs.Units.{ProtocolUnit, Request, Fault, LongLine}
use Rattle.mc_reply.specs.Texts.{plain_text}
use Rattle.mc_session.specs.Turns.{Answers, AnswersStep, DecidesStep}
use Rattle.mc_shared.specs.Asking.{AskingState}
use Rattle.mc_shared.specs.History.{Stepped, Purged, HistoryEntry}
use Rattle.mc_shared.specs.Past.{Past, call}
use Rattle.mc_shared.specs.Steps.{entry_of}
use Rattle.mc_laws.specs.Laws.{Has, StandsInLog}
use Rattle.mc_guests.specs.Links.{LinkState}
use Rattle.mc_guests.specs.Guests.{GuestState}
use Rattle.mc_guests.specs.Asks.{MayAsk, NamesKey}
use Rattle.mc_guests.specs.Visits.{Visited, RefusesTurn, RefusesPiece}
use Rattle.mc_guests.specs.Telling.{TakenTurn}
use Rattle.mc_guests.specs.declared.guest.Visit.{Visit}
use Rattle.mc_guests.specs.declared.guest.Visit.TheVariants.{Turned, Refused}
use Rattle.mc_workers.specs.Rounds.{as_caller}
use Rattle.mc_worker_laws.specs.Traces.{Trace, begun, purged, comes, visits, waits, turns_in, AreAnswered}

-- these entries are in a list, in order
abbrev pub StandInOrder : (calls entries : List HistoryEntry) → Type 0
StandInOrder calls [] = Unit {0}
StandInOrder calls (e ∷ entries) = (before : List HistoryEntry) × (rest : List HistoryEntry)
    × (calls ≡ before ++ e ∷ rest) × StandInOrder rest entries

-- a past with these further calls, in order
abbrev pub with_entries : Past → List HistoryEntry → Past
with_entries p [] = p
with_entries p (e ∷ entries) = with_entries (call p e) entries

-- What a worker's caller made a call for: to drop dead items; to measure the block of a guest's
-- next key; for a turn of a guest; or for such a turn whose text was refused memory. A guest is
-- named by its place among those of the trace.
pub data Purpose : Type 0 where
  tidies : Purpose
  measures : (at : ℕ) → Purpose
  answers : (at : ℕ) → Purpose
  lacks_text : (at : ℕ) → Purpose

-- a call with its purpose
abbrev pub PurposedCall : Type 0
PurposedCall = Purpose × HistoryEntry

-- the calls alone
abbrev pub entries : List PurposedCall → List HistoryEntry
entries [] = []
entries (c ∷ calls) = c.1 ∷ entries calls

-- these calls for turns of a guest
abbrev pub for_turns_of : ℕ → List HistoryEntry → List PurposedCall
for_turns_of at [] = []
for_turns_of at (e ∷ entries) = (answers at, e) ∷ for_turns_of at entries

-- whether the purpose is a turn of that guest
abbrev pub is_turn_of : ℕ → Purpose → Bool
is_turn_of at (answers other) = at == other
is_turn_of at purpose = false

-- the calls for turns of that guest
abbrev pub turn_calls : ℕ → List PurposedCall → List HistoryEntry
turn_calls at [] = []
turn_calls at (c ∷ calls) =
    if is_turn_of at c.0 then c.1 ∷ turn_calls at calls else turn_calls at calls

module _ {K : Type 0} (hash_of : K → List ℕ → ℕ) where
  -- the call of a command's turn: its step, unless it has none or no unique number was left for it
  abbrev pub step_call : (command : Command) (at now : ℕ) (before after : AskingState K)
      (text : List ℕ) (step : Option KeyStep) → MatchOption step
      ((text ≡ plain_text command) × (after ≡ before))
      (λ step. AnswersStep (as_caller hash_of) command at step now before after text)
      → List HistoryEntry
  step_call command at now before after text None plain = []
  step_call command at now before after text (Some step) (inl took) =
      entry_of before.past (Stepped step now took.0) ∷ []
  step_call command at now before after text (Some step) (inr spent) = []

  -- the call of a unit's turn
  abbrev pub unit_call : (unit : ProtocolUnit) (at now : ℕ) (before after : AskingState K)
      (text : List ℕ) → Answers (as_caller hash_of) unit at now before after text
      → List HistoryEntry
  unit_call (Request command) at now before after text answer =
      step_call command at now before after text (slice_get (steps command) at) answer
  unit_call (Fault fault) at now before after text answer = []
  unit_call LongLine at now before after text answer = []

  -- the call of a turn that was taken
  abbrev pub call_of : TakenTurn (as_caller hash_of) → List HistoryEntry
  call_of turn =
      unit_call turn.takes.unit turn.old.taken turn.now turn.before turn.after turn.takes.text
      turn.takes.answers

  -- the calls of turns, in order
  abbrev pub calls_of : List (TakenTurn (as_caller hash_of)) → List HistoryEntry
  calls_of [] = []
  calls_of (turn ∷ turns) = call_of turn ++ calls_of turns

  -- the call that measures a key's block, if there was one
  abbrev pub measuring : (at now : ℕ) (names : List ℕ → Type 0) (before after : AskingState K)
      → MayAsk (as_caller hash_of) now names before after → List PurposedCall
  measuring at now names before after (inl none) = []
  measuring at now names before after (inr (inl same)) = []
  measuring at now names before after (inr (inr reads)) =
      (measures at, entry_of before.past (Stepped (Read reads.key) now reads.reply)) ∷ []

  -- the call of a turn for whose text memory was refused, if its step was taken
  abbrev pub textless : (at now : ℕ) (old : GuestState) (before after : AskingState K)
      → (as_caller hash_of).same before after
      ⊎ DecidesStep (as_caller hash_of) now old.session before after → List PurposedCall
  textless at now old before after (inl same) = []
  textless at now old before after (inr decides) =
      (lacks_text at, entry_of before.past (Stepped decides.step now decides.reply)) ∷ []

  -- the call of what memory was refused for: a turn, or a piece, which has none
  abbrev pub refusing : (at now : ℕ) (old new : GuestState) (before after : AskingState K)
      → RefusesTurn (as_caller hash_of) now old new before after
      ⊎ (RefusesPiece old new × (after ≡ before)) → List PurposedCall
  refusing at now old new before after (inl turn) = textless at now old before after turn.store
  refusing at now old new before after (inr piece) = []

  -- the call of a visit, if there was one
  abbrev pub visiting : (at now : ℕ) (answer : Visit) (old new : GuestState)
      (before after : AskingState K) → Visited (as_caller hash_of) now answer old new before after
      → List PurposedCall
  visiting at now answer old new before after (inl ended) = []
  visiting at now Turned old new before after (inr due) = for_turns_of at
      (unit_call due.does.takes.unit old.session.taken now before after due.does.takes.text
      due.does.takes.answers)
  visiting at now Refused old new before after (inr due) =
      refusing at now old new before after due.does
  visiting at now answer old new before after (inr due) = []

  -- The clock's moments, and the worker's caller as it began.
  module _ (may_give : ℕ → Type 0) {begin : AskingState K} where
    -- all further calls of a trace, in order, each with its purpose
    abbrev pub calls_in : {links : List (ℕ × LinkState)} {guests : List GuestState}
        {caller : AskingState K} → Trace hash_of may_give begin links guests caller
        → List PurposedCall
    calls_in begun = []
    calls_in (purged {before = before} shelf now trace gives once) =
        calls_in trace ++ (tidies, entry_of before.past (Purged shelf now)) ∷ []
    calls_in (comes greatest link trace) = calls_in trace
    calls_in (visits {before = before} {after = after} at now answer old new trace is gives visit) =
        calls_in trace
        ++ (measuring at now (NamesKey old.session) before visit.between visit.asks
        ++ visiting at now answer old new visit.between after visit.visits)
    calls_in (waits {before = before} {after = after} at now old new trace is gives kept) =
        calls_in trace ++ measuring at now (NamesKey old.session) before after kept.asks

-- A worker's links are answered within this list of all callers' calls. Each further call of the
-- worker's caller has a purpose, and its caller has no other call that it hadn't before. These calls
-- are in the list, in order; and those for turns of a guest are the calls of the turns by which its
-- link is answered.
pub record AreAnsweredAmong {K : Type 0} (hash_of : K → List ℕ → ℕ) (may_give : ℕ → Type 0)
    (calls : List HistoryEntry) (links : List (ℕ × LinkState)) (begin end : AskingState K) : Type 0
  where
    pub answered : AreAnswered hash_of may_give links begin end
    pub further : end.past ≡ with_entries begin.past
        (entries (calls_in hash_of may_give answered.trace))
    pub only : (e : HistoryEntry) → Has end.past e → Has begin.past e
        ⊎ StandsInLog (entries (calls_in hash_of may_give answered.trace)) e
    pub among : StandInOrder calls (entries (calls_in hash_of may_give answered.trace))
    pub own : (at : ℕ) → turn_calls at (calls_in hash_of may_give answered.trace)
        ≡ calls_of hash_of (turns_in hash_of may_give answered.trace at)
