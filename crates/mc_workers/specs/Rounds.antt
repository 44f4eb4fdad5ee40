-- What a worker does, round by round.
use Rattle.std.specs.Prelude.{◌≡◌, ◌<◌, ◌-◌, ℕ, List, Bool, nat_lt, true, false}
use Rattle.mc_protocol.specs.declared.step.Steps.{Ghosts as Relations}
use Rattle.mc_time.specs.Chains.{Repeats}
use Rattle.mc_shelf.specs.Stores.{StoreState}
use Rattle.mc_shared.specs.Shown.{CallerState}
use Rattle.mc_shared.specs.Asking.{AskingState, AsksStep, AsksInVain}
use Rattle.mc_guests.specs.Books.{BooksState, SettlesFrom, no_books, quiet}
use Rattle.mc_guests.specs.Budgets.{unused}
use Rattle.mc_guests.specs.Admissions.{OpensForAll, shut}
use Rattle.mc_guests.specs.Turns.{VisitsAll}
use Rattle.mc_workers.specs.Room.{MakesRoom}
use Rattle.mc_workers.specs.Tending.{TidiesInTurn, asked_by}
use Rattle.mc_guests.specs.declared.admission.Admission.{Admission}
use Rattle.mc_guests.specs.declared.guests.WorkEnd.{WorkEnd}

-- how a caller takes steps
abbrev pub as_caller : {K : Type 0} → (K → List ℕ → ℕ) → Relations (AskingState K)
as_caller hash_of = record { took = AsksStep hash_of; spent = AsksInVain hash_of; same = λ old new. new ≡ old }

-- what a worker has when its door was opened: its caller, its guests, its door, what it counted, the next shelf
-- to be tidied, modulo their number, and the moment of the rounds before
pub record WorkState (K : Type 0) : Type 0 where
  pub asking : AskingState K
  pub books : BooksState
  pub door : Admission
  pub end : WorkEnd
  pub turn : ℕ
  pub moment : ℕ

-- what a round changes: the caller, the guests, and what is counted
abbrev pub RoundState : Type 0 → Type 0
RoundState K = AskingState K × BooksState × WorkEnd

-- what a worker begins with: no guests, their share, and storage commands may charge as much as its store's greatest
abbrev pub begins : {K : Type 0} → (first share : ℕ) → StoreState K → CallerState → (moment : ℕ) → WorkState K
begins first share began caller moment = record {
  asking = asked_by began caller;
  books = no_books (unused share began.settings.greatest);
  door = shut began.settings.greatest;
  end = record { served = 0; broken = 0; refused = 0 };
  turn = first;
  moment = moment;
}

module _ {K : Type 0} (hash_of : K → List ℕ → ℕ) where
  -- one round: all awake guests are visited at a moment; then ended ones are removed, and idle ones sleep
  pub record VisitsAndSettles (now : ℕ) (old new : RoundState K) : Type 0 where
    pub visited : BooksState
    pub visits : VisitsAll (as_caller hash_of) now old.1 visited old.0 new.0
    pub settles : SettlesFrom 0 visited new.1 old.2 new.2

  -- A further round is made only while some of 256 visits are left and a guest is awake. It takes a visit for each guest
  -- that was awake before it. The visits that are left stand beside what rounds change.
  pub record MakesFurtherRound (now : ℕ) (old new : ℕ × RoundState K) : Type 0 where
    pub some : 0 < old.0
    pub busy : quiet old.1.1 ≡ false
    pub left : new.0 ≡ old.0 - old.1.1.awake
    pub round : VisitsAndSettles now old.1 new.1

  -- rounds at a moment: one, and further ones
  pub record MakesRounds (now : ℕ) (old new : RoundState K) : Type 0 where
    pub first : RoundState K
    pub round : VisitsAndSettles now old first
    pub count : ℕ
    pub left : ℕ
    pub further : Repeats (MakesFurtherRound now) count (256 - old.1.awake, first) (left, new)

  -- From one opening of the door to the next, at a moment that the clock may give: dead items are dropped when the clock had
  -- risen or writes lack chunks, rounds are made, the slowest are ended or judged, and the door is opened for those that wait.
  pub record WorksOnce (may_give : ℕ → Type 0) (old new : WorkState K) (goes_on : Bool) : Type 0 where
    pub given : may_give new.moment
    pub tidied : AskingState K
    pub settled : BooksState
    pub roomy : BooksState
    pub counted : WorkEnd
    pub tidies : TidiesInTurn hash_of (nat_lt old.moment new.moment) new.moment old.turn new.turn old.asking tidied
    pub rounds : MakesRounds new.moment (tidied, old.books, old.end) (new.asking, settled, counted)
    pub judges : MakesRoom settled roomy
    pub opens : OpensForAll old.door new.door roomy new.books counted new.end goes_on

  -- once more, and the opening said that more can come
  abbrev pub WorksOn : (may_give : ℕ → Type 0) (old new : WorkState K) → Type 0
  WorksOn may_give old new = WorksOnce may_give old new true

  -- from its beginning on it worked, and each opening said that more can come
  pub record WorksSince (may_give : ℕ → Type 0) (first share : ℕ) (began : StoreState K) (caller : CallerState)
      (state : WorkState K) : Type 0 where
    pub moment : ℕ
    pub given : may_give moment
    pub count : ℕ
    pub works : Repeats (WorksOn may_give) count (begins first share began caller moment) state

  -- It worked until an opening said that nothing can come any more, and gives back the caller that took the steps and what
  -- it counted.
  pub record WorksToEnd (may_give : ℕ → Type 0) (first share : ℕ) (began : StoreState K) (caller : CallerState)
      (given_back : CallerState × WorkEnd) : Type 0 where
    pub last : WorkState K
    pub final : WorkState K
    pub since : WorksSince may_give first share began caller last
    pub ends : WorksOnce may_give last final false
    pub past : given_back.0.past ≡ final.asking.past
    pub end : given_back.1 ≡ final.end
