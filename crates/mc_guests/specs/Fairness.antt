-- Which guests go on and which wait on after a retry.
use Rattle.std.specs.Prelude.{◌≡◌, ◌⊎◌, ◌<◌, ◌≤◌, ◌+◌, ◌-◌, ◌++◌, ◌∷◌, ℕ, List, [], length, slice_get, Some, if◌then◌else◌, IsTrue, IsFalse}
use Rattle.std.specs.List.{sum_by}
use Rattle.mc_guests.specs.Budgets.{plus, has_left}
use Rattle.mc_guests.specs.Guests.{RowGuest, is_queued, is_stray, missing, in_line}
use Rattle.mc_guests.specs.Books.{RowState, BooksState, HasNumber, StandsAt}
use Rattle.mc_guests.specs.Retries.{looks, waits_long, finds_room, FindsNone, NoneWaits}
use Rattle.mc_guests.specs.declared.budget.Budget.{Budget}
use Rattle.mc_guests.specs.declared.metered.WaitState.TheVariants.{Next}

-- a number is in a list
abbrev pub IsIn : (number : ℕ) → List ℕ → Type 0
IsIn number [] = ⊥
IsIn number (other ∷ numbers) = (other ≡ number) ⊎ IsIn number numbers

-- some of a list, in its order
pub data KeepsOrder : (some all : List ℕ) → Type 0 where
  nobody : KeepsOrder [] []
  stays : {number : ℕ} {some all : List ℕ} → KeepsOrder some all → KeepsOrder (number ∷ some) (number ∷ all)
  leaves : {number : ℕ} {some all : List ℕ} → KeepsOrder some all → KeepsOrder some (number ∷ all)

-- a guest found room for what it misses beside what was promised until then, and that was promised to it
pub record FoundRoom (guest : RowGuest) (old new : Budget) : Type 0 where
  pub promised : ℕ
  pub since : old.promised ≤ promised
  pub left : IsTrue (has_left (missing guest) (record old { promised = promised }))
  pub gets : plus promised (missing guest) ≤ new.promised

-- A guest is tried again: it is out of the queue, and awake. It waited in the queue and found room; or it waited asleep,
-- and was left out of the queue.
pub record GoesOn (at place : ℕ) (guest later : RowGuest) (old new : BooksState) : Type 0 where
  pub next : later ≡ in_line Next guest
  pub awake : place < new.awake
  pub why : (IsTrue (is_queued guest) × FoundRoom guest old.budget new.budget)
      ⊎ (IsTrue (is_stray guest) × (old.awake ≤ at))

-- a guest is as it was, awake or asleep
pub record Stays (at place : ℕ) (guest later : RowGuest) (old new : BooksState) : Type 0 where
  pub same : later ≡ guest
  pub awake : at < old.awake → place < new.awake
  pub asleep : old.awake ≤ at → new.awake ≤ place

-- the guest that stood at a place stands yet, by the same number; it is as it was, or is tried again
pub record Fares (at number : ℕ) (guest : RowGuest) (old new : BooksState) : Type 0 where
  pub place : ℕ
  pub later : RowGuest
  pub has_it : HasNumber new.row place number
  pub stands : StandsAt place new.row later
  pub fate : Stays at place guest later old new ⊎ GoesOn at place guest later old new

-- a guest stands in a row, by this number
abbrev pub StandsBy : (number : ℕ) → RowGuest → RowState → Type 0
StandsBy number guest row = (place : ℕ) × HasNumber row place number × StandsAt place row guest

-- a guest stood in a row before, by the same number; it is as it was, or is tried again
pub record Stood (number : ℕ) (later : RowGuest) (row : RowState) : Type 0 where
  pub at : ℕ
  pub guest : RowGuest
  pub has_it : HasNumber row at number
  pub stands : StandsAt at row guest
  pub same : (later ≡ guest) ⊎ (later ≡ in_line Next guest)

-- the first of the queue waited there for 2 s and finds no room
pub record OldestLacksRoom (books : BooksState) : Type 0 where
  pub number : ℕ
  pub at : ℕ
  pub guest : RowGuest
  pub first : slice_get books.queue 0 ≡ Some number
  pub has_it : HasNumber books.row at number
  pub stands : StandsAt at books.row guest
  pub long : IsTrue (waits_long books.budget.ticks guest)
  pub none : IsFalse (finds_room guest books)

-- The queue afterwards: first the guests that weren't retried, behind them the ones that were and found no room. Before,
-- the second were in front of the first, each in the same order. If others don't wait for the oldest, at most the guests
-- beyond 256 weren't retried. If the newest is in turn, it found no room either, or 256 have left. A guest that left
-- isn't in the queue.
pub record WaitsOn (old new : BooksState) : Type 0 where
  pub unseen : List ℕ
  pub seen : List ℕ
  pub queue : new.queue ≡ unseen ++ seen
  pub none : (number : ℕ) → IsIn number seen → FindsNone new number
  pub order : KeepsOrder (seen ++ unseen) old.queue
  pub few : IsFalse new.budget.is_kept → length unseen ≤ length old.queue - looks
  pub kept : IsTrue new.budget.is_kept → OldestLacksRoom new
  pub newest : IsTrue new.is_last → (front : List ℕ) (number : ℕ) → unseen ≡ front ++ number ∷ []
      → FindsNone new number ⊎ (length new.queue + looks ≤ length old.queue)
  pub stays : (number : ℕ) → IsIn number old.queue → IsIn number new.queue ⊎ NoneWaits number new.row

-- what a guest misses if it waits in the queue
abbrev pub misses : RowGuest → ℕ
misses guest = if is_queued guest then missing guest else 0

-- the bytes that the queued guests wait for
abbrev pub missed_by : RowState → ℕ
missed_by row = sum_by misses row.guests

-- no guest holds much, and all that was promised is what one misses that waited in the queue
pub record OneAlone (old new : BooksState) : Type 0 where
  pub number : ℕ
  pub at : ℕ
  pub guest : RowGuest
  pub has_it : HasNumber old.row at number
  pub stands : StandsAt at old.row guest
  pub queued : IsTrue (is_queued guest)
  pub none : new.budget.large ≡ 0
  pub all : new.budget.promised ≡ plus 0 (missing guest)

-- What is promised more is what those miss that left the queue. It is nothing, or what is promised fits into the share
-- beside what is held, or one guest alone gets it all.
pub record Promises (old new : BooksState) : Type 0 where
  pub more : ℕ
  pub missed : missed_by old.row ≡ more + missed_by new.row
  pub promised : new.budget.promised ≡ plus old.budget.promised more
  pub fits : (new.budget.promised ≡ old.budget.promised)
      ⊎ ((plus new.budget.held new.budget.promised ≤ new.budget.share) ⊎ OneAlone old new)

-- Those that wait were tried again, and none is lost: each guest is as it was or is tried again. Of a budget only what is
-- promised changes, and whether others wait for the oldest. If some were left out of the queue, none of them sleeps.
pub record IsFair (old new : BooksState) : Type 0 where
  pub guests : (at number : ℕ) (guest : RowGuest) → HasNumber old.row at number → StandsAt at old.row guest
      → Fares at number guest old new
  pub came : (place number : ℕ) (later : RowGuest) → HasNumber new.row place number → StandsAt place new.row later
      → Stood number later old.row
  pub queue : WaitsOn old new
  pub promises : Promises old new
  pub strays : IsTrue old.has_strays → (place : ℕ) (later : RowGuest) → new.awake ≤ place
      → StandsAt place new.row later → IsFalse (is_stray later)
  pub budget : new.budget
      ≡ record old.budget { promised = new.budget.promised; is_kept = new.budget.is_kept }

-- no guest that waits in the queue finds room
abbrev pub NoneFindsRoom : BooksState → Type 0
NoneFindsRoom books = (number : ℕ) → IsIn number books.queue → FindsNone books number
