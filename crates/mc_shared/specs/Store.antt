-- The promises of the shared store's calls.
use Rattle.std.specs.Prelude.{◌≡◌, ℕ, ◌⊎◌, Bool, true, List, [], ◌∷◌, ◌++◌, Some, None}
use Rattle.mc_protocol.specs.declared.step.KeyStep.{KeyStep}
use Rattle.mc_protocol.specs.declared.reply.Reply.{Reply}
use Rattle.mc_protocol.specs.declared.step.StepFault.{StepFault}
use Rattle.mc_protocol.specs.declared.step.StepFault.TheVariants.{NoMemory as OutOfMemory, NumbersSpent as OutOfNumbers}
use Rattle.mc_protocol.specs.Commands.{key_of}
use Rattle.mc_protocol.specs.Laws.{IsOnKey}
use Rattle.std.specs.FinMap.{get}
use Rattle.mc_protocol.specs.Plain.{Plain, Outcome, Spent, MayFail, plain}
use Rattle.mc_shelf.specs.Numbers.{number_of}
use Rattle.mc_shelf.specs.States.{ShelfState, DeskState}
use Rattle.mc_shared.specs.declared.bay.Bay.TheVariants.{Shelf, Desk}
use Rattle.mc_shared.specs.Bays.{Content, place}
use Rattle.mc_shared.specs.declared.fault.TryFault.{TryFault}
use Rattle.mc_shared.specs.declared.fault.TryFault.TheVariants.{Busy, NoMemory, NumbersSpent}
use Rattle.mc_shared.specs.History.{Beginning, HistoryEntry, Stepped, shelf_in, after, IsLegal}
use Rattle.mc_shared.specs.Past.{Past, call, Whole, KeptBy}
use Rattle.mc_shared.specs.Steps.{Slot, Mine, Agrees, entry_of}

-- a seat with this past, which holds nothing
abbrev pub resting : Past → Mine
resting p = (record { past = p; bays = []; surplus = [] }, [])

-- a seat that holds one bay, with its content
abbrev pub holds_one : Past → ℕ → Content → Mine
holds_one p at x = (record { past = p; bays = (at, x) ∷ []; surplus = [] }, (place at, None) ∷ [])

-- the past with one more call
abbrev pub with_call : Past → KeyStep → ℕ → Reply → Past
with_call p step now reply = call p (entry_of p (Stepped step now reply))

-- the past became that with one more call, and a legal history keeps it
abbrev pub HasCalled : Beginning → (old : Past) → KeyStep → (now : ℕ) → Reply → (new : Past) → Type 0
HasCalled start old step now reply new = (new ≡ with_call old step now reply) × Agrees start new

-- after some legal history that keeps the past, this is an outcome of the step on the plain machine
pub record CanCome (began : Beginning) (p : Past) (step : KeyStep) (now : ℕ)
    (so : Outcome → Type 0) : Type 0 where
  pub log : List HistoryEntry
  pub legal : IsLegal began began.plain log
  pub keeps : KeptBy log p
  pub outcome : so (plain (after began began.plain log) step now)

-- after some such history it has no unique number left for the step
abbrev pub IsSpentAfter : Beginning → Past → KeyStep → (now : ℕ) → Type 0
IsSpentAfter began p step now = CanCome began p step now (λ outcome. outcome ≡ Spent)

-- after some such history the reply is a hit or a write: memory may be refused for these
abbrev pub MayFailAfter : Beginning → Past → KeyStep → (now : ℕ) → Type 0
MayFailAfter began p step now = CanCome began p step now MayFail

-- Why a tried step wasn't taken. The bay is busy only if its word was 1, so not if the past is
-- whole; it is the key's shelf or the desk.
abbrev pub May : Beginning → Past → KeyStep → ℕ → TryFault → Type 0
May began p step now (Busy bay word) =
    (word ≡ 1) × (Whole p → ⊥) × ((bay ≡ shelf_in began (key_of step)) ⊎ (bay ≡ began.shelves))
May began p step now NoMemory = MayFailAfter began p step now
May began p step now NumbersSpent = IsSpentAfter began p step now

-- no key of the state has the key's number
abbrev pub HasNone : Beginning → Plain → (key : List ℕ) → Type 0
HasNone start m key =
    (other : List ℕ) → number_of start.hash_of other ≡ number_of start.hash_of key
    → get m.items other ≡ None

-- What a caller learns of a key by its number's word, after some legal history that keeps its past.
-- If the answer is true, no key has the number. If the past is whole, it is true exactly if none
-- has.
pub record IsShown (start : Beginning) (p : Past) (key : List ℕ) (answer : Bool) : Type 0 where
  pub log : List HistoryEntry
  pub legal : IsLegal start start.plain log
  pub keeps : KeptBy log p
  pub gone : answer ≡ true → HasNone start (after start start.plain log) key
  pub zero : Whole p → HasNone start (after start start.plain log) key → answer ≡ true

-- a bay at home
abbrev pub shelf_slot : ShelfState → Slot
shelf_slot shelf = Some (Shelf shelf)

abbrev pub desk_slot : DeskState → Slot
desk_slot desk = Some (Desk desk)

-- a slot, and the empty ones up to the next place
abbrev pub slot_alone : Slot → List Slot
slot_alone x = x ∷ None ∷ None ∷ None ∷ None ∷ None ∷ None ∷ None ∷ []

-- the slots of bays, one after another
abbrev pub spaced : List Slot → List Slot
spaced [] = []
spaced (x ∷ xs) = slot_alone x ++ spaced xs

-- a seat that holds two bays; the first one was taken last
abbrev pub holds_two : Past → ℕ → Content → ℕ → Content → Mine
holds_two p b y at x = (
  record { past = p; bays = (b, y) ∷ (at, x) ∷ []; surplus = [] },
  (place b, None) ∷ (place at, None) ∷ [],
)

-- Why a step wasn't taken: memory was refused, which a flush needs too, or the numbers are used up;
-- for a step on a key each is so only after some such history.
abbrev pub Refuses : Beginning → Past → KeyStep → ℕ → StepFault → Type 0
Refuses began p step now OutOfMemory = IsOnKey step → MayFailAfter began p step now
Refuses began p step now OutOfNumbers = IsSpentAfter began p step now
