-- Who is visited in a round, where guests that want much may be kept waiting.
use Rattle.std.specs.Prelude.{◌≢◌, ◌⊎◌, ℕ, List, take, IsTrue, IsFalse}
use Rattle.mc_protocol.specs.declared.step.Steps.{Ghosts as Relations}
use Rattle.mc_guests.specs.Asks.{AsksAndVisits, IsKeptWaiting}
use Rattle.mc_guests.specs.Books.{BooksState, KeepsBooks}
use Rattle.mc_guests.specs.Retries.{LetsOn, IsWhole}
use Rattle.mc_guests.specs.Budgets.{uncounted, IsHeldBack, IsCounted, Recounts, CountsAll}
use Rattle.mc_guests.specs.Guests.{RowGuest}
use Rattle.mc_guests.specs.Visits.{OneByOne}
use Rattle.mc_guests.specs.declared.budget.Budget.{Budget}
use Rattle.mc_guests.specs.declared.guest.Visit.{Visit}
use Rattle.mc_guests.specs.declared.guest.Visit.TheVariants.{Wrote}

module _ {S : Type 0} (relations : Relations S) (now : ℕ) where
  -- a guest was visited, and waits for no room; unless its link took output, it is counted for what it holds then
  pub record IsVisited (old new : RowGuest) (before after : S) (later : Budget) : Type 0 where
    pub answer : Visit
    pub visits : AsksAndVisits relations now answer old.guest new.guest before after
    pub goes_on : IsFalse new.waits
    pub counted : answer ≢ Wrote → IsCounted new later

  -- a guest is kept waiting, and waits for room: it has ended, or lacks room beside what the budget counts of the others
  pub record WaitsForRoom (old new : RowGuest) (before after : S) (budget : Budget) : Type 0 where
    pub kept : IsKeptWaiting relations now old.guest new.guest before after
    pub held_back : IsHeldBack new.guest (uncounted old.counted old.waits budget)
    pub waits : IsTrue new.waits

  -- a guest was visited, or is kept waiting, and the budget counts it anew
  pub record HasTurn (before : S × Budget) (guest : RowGuest × RowGuest) (after : S × Budget) : Type 0 where
    pub turn : IsVisited guest.0 guest.1 before.0 after.0 after.1 ⊎ WaitsForRoom guest.0 guest.1 before.0 after.0 before.1
    pub counts : Recounts guest.0 guest.1 before.1 after.1

  -- the guests have their turns in order, once each; the store and the budget go from each to the next
  abbrev pub HaveTurns : (olds news : List RowGuest) (before after : S) (budget later : Budget) → Type 0
  HaveTurns olds news before after budget later = OneByOne HasTurn olds news (before, budget) (after, later)

  -- Those that are awake have their turns, by a budget of the guests' share that counts all guests, each of whom has a
  -- number. Who sleeps, all numbers, who is awake, and the queue stay.
  pub record VisitsAwake (old new : BooksState) (before after : S) : Type 0 where
    pub whole : IsWhole old.row
    pub counts : CountsAll old.budget old.row.guests
    pub turns : HaveTurns (take old.awake old.row.guests) (take old.awake new.row.guests) before after old.budget new.budget
    pub keeps : KeepsBooks old new

  -- if a retry is due, waiting guests are retried; then all awake guests have their turns
  pub record VisitsAll (old new : BooksState) (before after : S) : Type 0 where
    pub between : BooksState
    pub wakes : LetsOn old between
    pub visits : VisitsAwake between new before after
