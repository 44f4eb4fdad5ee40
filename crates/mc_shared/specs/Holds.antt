-- What a seat holds: a shelf, or a shelf and the desk.
use Rattle.std.specs.Prelude.{◌≡◌, ℕ, ◌<◌, ◌≤◌, ◌⊎◌, List, length}
use Rattle.mc_protocol.specs.declared.step.KeyStep.{KeyStep}
use Rattle.mc_protocol.specs.Commands.{key_of, longest_key}
use Rattle.mc_shelf.specs.States.{ShelfContent, DeskState}
use Rattle.mc_shelf.specs.Plans.{IsPlan}
use Rattle.mc_shelf.specs.declared.plan.Plan.{Plan}
use Rattle.mc_shared.specs.Bays.{OfShelf, OfDesk}
use Rattle.mc_shared.specs.History.{Beginning, Purged, start_of, shelf_in}
use Rattle.mc_shared.specs.Past.{Past, Lives, Whole, call}
use Rattle.mc_shared.specs.Steps.{Fitted, Agrees, entry_of}
use Rattle.mc_shared.specs.Store.{Refuses, holds_one, holds_two}
use Rattle.mc_shared.specs.Seats.{Sitter}
use Rattle.mc_shared.specs.Shown.{SharedState, CallerState}
use Rattle.mc_shared.specs.declared.patience.Busy.{Busy}
use Rattle.mc_protocol.specs.declared.step.StepFault.TheVariants.{NoMemory as OutOfMemory, NumbersSpent as OutOfNumbers}
use Rattle.mc_shared.specs.declared.fault.TryFault.{TryFault}
use Rattle.mc_shared.specs.declared.fault.TryFault.TheVariants.{Busy as IsBusy, NoMemory, NumbersSpent}
use Rattle.mc_shared.specs.declared.ask.Ask.{Ask}
use Rattle.mc_shared.specs.declared.ask.Untaken.{Untaken}
use Rattle.mc_shared.specs.declared.ask.Untaken.TheVariants.{Met, Refused}

-- the seat is the store's, its caller is alive, and it holds only this shelf, which fits a history
pub record HoldsShelf {K : Type 0} (hash_of : K → List ℕ → ℕ) (shared : SharedState K) (seat : Sitter)
    (at : ℕ) (shelf : ShelfContent) : Type 0 where
  pub own : seat.table_id ≡ shared.table
  pub lives : Lives seat.me.0.past
  pub inside : at < shared.began.settings.shelves
  pub held : seat.me ≡ holds_one seat.me.0.past at (OfShelf shelf)
  pub fits : Fitted (start_of hash_of shared.began) seat.me.0

-- the seat is the store's, its caller is alive, and it holds this shelf and the desk, which fit a
-- history
pub record HoldsBoth {K : Type 0} (hash_of : K → List ℕ → ℕ) (shared : SharedState K) (seat : Sitter)
    (at : ℕ) (shelf : ShelfContent) (desk : DeskState) : Type 0 where
  pub own : seat.table_id ≡ shared.table
  pub lives : Lives seat.me.0.past
  pub inside : at < shared.began.settings.shelves
  pub held : seat.me
      ≡ holds_two seat.me.0.past shared.began.settings.shelves (OfDesk desk) at (OfShelf shelf)
  pub fits : Fitted (start_of hash_of shared.began) seat.me.0

-- a seat holds some shelf alone
abbrev pub HoldsSome : {K : Type 0} → (K → List ℕ → ℕ) → SharedState K → Sitter → Type 0
HoldsSome hash_of shared seat =
    (at : ℕ) × (shelf : ShelfContent) × HoldsShelf hash_of shared seat at shelf

-- whichever shelf it held alone, it holds alone
abbrev pub KeepsShelf
    : {K : Type 0} → (K → List ℕ → ℕ) → SharedState K → (old new : Sitter) → Type 0
KeepsShelf hash_of shared old new = (at : ℕ) (shelf : ShelfContent)
    → HoldsShelf hash_of shared old at shelf → HoldsShelf hash_of shared new at shelf

-- whichever shelf it held alone, it holds with the desk
abbrev pub TakesDesk
    : {K : Type 0} → (K → List ℕ → ℕ) → SharedState K → (old new : Sitter) → DeskState → Type 0
TakesDesk hash_of shared old new desk = (at : ℕ) (shelf : ShelfContent)
    → HoldsShelf hash_of shared old at shelf → HoldsBoth hash_of shared new at shelf desk

-- the caller with this seat
abbrev pub caller_at : Sitter → CallerState
caller_at seat = record { table = seat.table_id; past = seat.me.0.past }

-- a step, with its key's hash and its shelf in this store
pub record IsAsked {K : Type 0} (hash_of : K → List ℕ → ℕ) (shared : SharedState K) (ask : Ask)
    : Type 0 where
  pub short : length (key_of ask.step.now) ≤ longest_key
  pub hashed : ask.hash ≡ hash_of shared.began.hasher (key_of ask.step.now)
  pub own : shelf_in (start_of hash_of shared.began) (key_of ask.step.now) ≡ ask.at
  pub inside : ask.at < shared.began.settings.shelves

-- a plan of a step by what a shelf holds, with the hash of the step's key
pub record IsPlanned (plan : Plan) (shelf : ShelfContent) (ask : Ask) : Type 0 where
  pub is_plan : IsPlan plan shelf ask.step.now ask.moment
  pub hashed : plan.hash ≡ ask.hash

-- another caller holds the bay, since its word was 1; not so if the past is whole
pub record IsBusyTo (p : Past) (bay : ℕ) (busy : Busy) : Type 0 where
  pub same : busy.bay ≡ bay
  pub odd : busy.word ≡ 1
  pub other : Whole p → ⊥

-- the past has the purge as one more call, and a legal history keeps it
pub record HasPurged {K : Type 0} (hash_of : K → List ℕ → ℕ) (shared : SharedState K) (old : Past)
    (at now : ℕ) (new : Past) : Type 0 where
  pub past : new ≡ call old (entry_of old (Purged at now))
  pub agrees : Agrees (start_of hash_of shared.began) new

-- Why a step wasn't taken: another caller held the key's shelf or the desk, or it was refused.
abbrev pub Unmet : {B : Type 0} → (Past → ℕ → B → Type 0) → Beginning → Past → KeyStep → ℕ → Untaken B
    → Type 0
Unmet busy start p step now (Met told) = busy p (shelf_in start (key_of step)) told ⊎ busy p start.shelves told
Unmet busy start p step now (Refused fault) = Refuses start p step now fault

-- the error that a caller of `try_step` gets
abbrev pub told_of : Untaken Busy → TryFault
told_of (Met busy) = IsBusy busy.bay busy.word
told_of (Refused OutOfMemory) = NoMemory
told_of (Refused OutOfNumbers) = NumbersSpent
