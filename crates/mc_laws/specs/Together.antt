-- One order of all callers' calls, with the replies of one plain machine.
use Rattle.std.specs.Prelude.{◌≡◌, ◌≤◌, ◌⊎◌, ◌==◌, List, [], ◌∷◌, ◌++◌}
use Rattle.std.specs.List.Sorted.{IsPermutation}
use Rattle.mc_protocol.specs.Plain.{Plain, Answered, plain}
use Rattle.mc_protocol.specs.Purge.{purged}
use Rattle.mc_shared.specs.History.{Beginning, Operation, Stepped, Purged, HistoryEntry, shelf_in}
use Rattle.mc_shared.specs.Past.{Past, spent, start, made, both, held, callers, times, Whole}
use Rattle.mc_shared.specs.Steps.{next_name}
use Rattle.mc_laws.specs.Laws.{StandsInLog, StandsBefore, Has, CallerKnew, Call, with_calls, heeded}

-- the plain machine takes a step with this reply, and leaves this state; a purge, which has no
-- reply, drops the dead items of its shelf
abbrev pub AnswersOne : Beginning → (old : Plain) → Operation → (new : Plain) → Type 0
AnswersOne began old (Stepped step now reply) new = plain old step now ≡ Answered reply new
AnswersOne began old (Purged shelf now) new =
    new ≡ purged (λ key. shelf_in began key == shelf) now old

-- it takes each of these in order with its reply, and leaves the last state
abbrev pub AnswersEach : Beginning → (old : Plain) → List HistoryEntry → (left : Plain) → Type 0
AnswersEach began old [] left = left ≡ old
AnswersEach began old (e ∷ es) left =
    (new : Plain) × AnswersOne began old e.what new × AnswersEach began new es left

-- One list of all calls of a past, and perhaps of calls by others, but with no other call of the
-- callers that the past holds. Each is in it once, after all that its caller knew when it made it;
-- if all callers are joined, it has exactly their calls. And the plain machine, from what the store
-- began with, takes them in order with the replies that their callers got, and leaves this state.
pub record AreAnswered (began : Beginning) (p : Past) (calls : List HistoryEntry) (left : Plain) : Type
    0 where
  pub all : (e : HistoryEntry) → Has p e → StandsInLog calls e
  pub once : (first second : HistoryEntry) → StandsBefore calls first second
      → first.by ≡ second.by → first.number ≡ second.number → ⊥
  pub order : (later known : HistoryEntry) → CallerKnew p later known → StandsBefore calls known later
  pub own : (e : HistoryEntry) → 1 ≤ times e.by (callers p) → StandsInLog calls e
      → StandsInLog (held p) e
  pub exactly : Whole p → IsPermutation (held p) calls
  pub answers : AnswersEach began began.plain calls left

-- The first caller made another, each made its calls, and then the other was joined into the first.
abbrev pub two_callers : (first second : List Call) → Past
two_callers first second =
    both (with_calls (made (start [] spent) (0 ∷ [])) first)
    (with_calls (start (0 ∷ []) (start [] spent)) second)

-- the calls of two lists in one, each list in its order
abbrev pub IsMixOf : (first second mix : List Call) → Type 0
IsMixOf first second [] = (first ≡ []) × (second ≡ [])
IsMixOf first second (c ∷ mix) =
    ((rest : List Call) × (first ≡ c ∷ rest) × IsMixOf rest second mix)
    ⊎ ((rest : List Call) × (second ≡ c ∷ rest) × IsMixOf first rest mix)

-- the past of the first caller after it made another, and these calls
abbrev first_calls : List Call → Past
first_calls firsts = with_calls (made (start [] spent) (0 ∷ [])) firsts

-- the past of that other after these calls
abbrev other_calls : List Call → Past
other_calls earlier = with_calls (start (0 ∷ []) (start [] spent)) earlier

-- The first caller made another and these calls, gave a note, and made more calls. The other made
-- its earlier calls, heeded the note, and made its later calls. Then it was joined.
abbrev pub one_note : (firsts more earlier lates : List Call) → Past
one_note firsts more earlier lates =
    both (with_calls (made (first_calls firsts) (next_name (first_calls firsts))) more)
    (with_calls (heeded (other_calls earlier) (next_name (first_calls firsts)) (first_calls firsts))
    lates)

-- A mix of the calls of both in two parts. The front has all that the first made before it gave the
-- note, and all that the other made before it heeded it. The back has all that the other made then.
pub record IsMixWithNote (firsts more earlier lates mix : List Call) : Type 0 where
  pub front : List Call
  pub back : List Call
  pub soon : List Call
  pub rest : List Call
  pub is : mix ≡ front ++ back
  pub went_on : more ≡ soon ++ rest
  pub before : IsMixOf (firsts ++ soon) earlier front
  pub behind : IsMixOf rest lates back
