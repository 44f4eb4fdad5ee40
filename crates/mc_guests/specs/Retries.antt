-- Which waiting guests go on.
use Rattle.std.specs.Prelude.{◌≡◌, ◌⊎◌, ◌<◌, ◌+◌, ◌-◌, ◌&&◌, not, nat_le, min, ℕ, zero, suc, Bool, false, [], ◌∷◌, ◌++◌, length, take, drop, slice_get, Option, Some, None, if◌then◌else◌, IsTrue, IsFalse}
use Rattle.mc_guests.specs.Budgets.{promised_more, has_left, is_retry_due, retried}
use Rattle.mc_guests.specs.Guests.{RowGuest, is_queued, is_stray, missing, in_line}
use Rattle.mc_guests.specs.LinkRates.{age}
use Rattle.mc_guests.specs.Books.{RowState, BooksState, HasNumber, StandsAt, with_guest, woken}
use Rattle.mc_time.specs.Chains.{Repeats}
use Rattle.mc_guests.specs.declared.metered.WaitState.{WaitState}
use Rattle.mc_guests.specs.declared.metered.WaitState.TheVariants.{Next}

-- how many that wait are looked at, at most
abbrev pub looks : ℕ
looks = 256

-- the guest at a place waits in the queue by this number, and no other guest has it
pub record IsQueuedAt (number at : ℕ) (row : RowState) : Type 0 where
  pub guest : RowGuest
  pub has_it : HasNumber row at number
  pub alone : (other : ℕ) → HasNumber row other number → other ≡ at
  pub stands : StandsAt at row guest
  pub queued : IsTrue (is_queued guest)

-- no guest waits in the queue by this number
abbrev pub NoneWaits : (number : ℕ) → RowState → Type 0
NoneWaits number row = (at : ℕ) (guest : RowGuest) → HasNumber row at number → StandsAt at row guest
    → IsFalse (is_queued guest)

-- whether a guest has waited in the queue for 2 s
abbrev pub waits_long : (ticks : ℕ) → RowGuest → Bool
waits_long ticks guest = is_queued guest && nat_le 8 (age ticks guest.pace)

-- the guest at a place stands there in the queue
abbrev pub lined : (at : ℕ) → WaitState → BooksState → BooksState
lined at line books = record books { row = with_guest (in_line line) at books.row }

-- the guest at a place wakes if it sleeps
abbrev pub woken_if : (at : ℕ) → BooksState → BooksState
woken_if at books = if nat_le books.awake at then woken at books else books

-- the guest at a place is tried again
abbrev pub tried_again : (at : ℕ) → BooksState → BooksState
tried_again at books = woken_if at (lined at Next books)

-- the room that a guest misses is promised to it
abbrev pub promised_to : RowGuest → BooksState → BooksState
promised_to guest books = record books { budget = promised_more (missing guest) books.budget }

-- whether a guest that waits finds room, beside what was promised to others
abbrev pub finds_room : RowGuest → BooksState → Bool
finds_room guest books = has_left (missing guest) books.budget

-- whether the guest at a place finds room; if so, the room is promised to it
pub record PromisesRoom (at : ℕ) (result : Bool) (old new : BooksState) : Type 0 where
  pub guest : RowGuest
  pub stands : StandsAt at old.row guest
  pub finds : result ≡ finds_room guest old
  pub books : new ≡ (if result then promised_to guest old else old)

-- others wait for the guest from now on if it is the oldest one's turn and it waited long
abbrev pub room_kept : RowGuest → BooksState → BooksState
room_kept guest books = record books {
  budget = record books.budget { is_kept = not books.is_last && waits_long books.budget.ticks guest };
}

-- the same, for the guest at a place
pub record KeepsRoom (at : ℕ) (old new : BooksState) : Type 0 where
  pub guest : RowGuest
  pub stands : StandsAt at old.row guest
  pub books : new ≡ room_kept guest old

-- the next number of the queue: the newest's or the oldest's
abbrev pub in_turn : BooksState → Option ℕ
in_turn books = if books.is_last then slice_get books.queue (length books.queue - 1) else slice_get books.queue 0

-- it is struck out of the queue
abbrev pub struck_out : BooksState → BooksState
struck_out books = record books {
  queue = if books.is_last then take (length books.queue - 1) books.queue else drop 1 books.queue;
}

-- the turn passes between the oldest and the newest
abbrev pub turn_passed : BooksState → BooksState
turn_passed books = record books { is_last = not books.is_last }

-- The next number left the queue: its guest found room and is tried again, and the turn passes; or no guest
-- waits by it.
pub data TakesTurn : (old new : BooksState) → Type 0 where
  goes_on : {books : BooksState} {number at : ℕ} → in_turn books ≡ Some number
      → (waits : IsQueuedAt number at books.row) → IsTrue (finds_room waits.guest books)
      → TakesTurn books (tried_again at (turn_passed (struck_out (promised_to waits.guest books))))
  is_gone : {books : BooksState} {number : ℕ} → in_turn books ≡ Some number → NoneWaits number books.row
      → TakesTurn books (struck_out books)

-- The queue is empty; or its next guest finds no room, and others wait for it if it is the oldest and
-- waited long.
pub data EndsTurns : (old new : BooksState) → Type 0 where
  nobody_waits : {books : BooksState} → in_turn books ≡ None → EndsTurns books books
  finds_none : {books : BooksState} {number at : ℕ} → in_turn books ≡ Some number
      → (waits : IsQueuedAt number at books.row) → IsFalse (finds_room waits.guest books)
      → EndsTurns books (room_kept waits.guest books)

-- `count` turns were taken
abbrev pub TakesTurns : (count : ℕ) (old new : BooksState) → Type 0
TakesTurns count old new = Repeats TakesTurn count old new

-- the oldest and the newest go on in turn, until one finds no room, none is there, or 256 turns were taken
pub record GoInTurn (old new : BooksState) : Type 0 where
  pub count : ℕ
  pub last : BooksState
  pub turns : TakesTurns count old last
  pub over : ((count ≡ looks) × (new ≡ last)) ⊎ ((count < looks) × EndsTurns last new)

-- the first of the queue leaves it
abbrev pub first_dropped : BooksState → BooksState
first_dropped books = record books { queue = drop 1 books.queue }

-- the first of the queue goes behind the others
abbrev pub first_behind : (number : ℕ) → BooksState → BooksState
first_behind number books = record books { queue = drop 1 books.queue ++ number ∷ [] }

-- The first of the queue was looked at: it leaves the queue and is tried again if it finds room, and else goes behind the
-- others. It leaves the queue if no guest waits by its number.
pub data LooksAtFirst : (old new : BooksState) → Type 0 where
  nobody_waits : {books : BooksState} → slice_get books.queue 0 ≡ None → LooksAtFirst books books
  goes_on : {books : BooksState} {number at : ℕ} → slice_get books.queue 0 ≡ Some number
      → (waits : IsQueuedAt number at books.row) → IsTrue (finds_room waits.guest books)
      → LooksAtFirst books (tried_again at (first_dropped (promised_to waits.guest books)))
  finds_none : {books : BooksState} {number at : ℕ} → slice_get books.queue 0 ≡ Some number
      → (waits : IsQueuedAt number at books.row) → IsFalse (finds_room waits.guest books)
      → LooksAtFirst books (first_behind number books)
  is_gone : {books : BooksState} {number : ℕ} → slice_get books.queue 0 ≡ Some number → NoneWaits number books.row
      → LooksAtFirst books (first_dropped books)

-- the first of the queue was looked at `count` times
abbrev pub LooksAt : (count : ℕ) (old new : BooksState) → Type 0
LooksAt count old new = Repeats LooksAtFirst count old new

-- all in the queue are looked at, but 256 at most; none if others wait for the oldest
pub record GoBeside (old new : BooksState) : Type 0 where
  pub waits : IsTrue old.budget.is_kept → new ≡ old
  pub goes : IsFalse old.budget.is_kept → LooksAt (min (length old.queue) looks) old new

-- whether the guest that stands there waits, and is left out of the queue
abbrev pub strays : Option RowGuest → Bool
strays None = false
strays (Some guest) = is_stray guest

-- the guest at a place is tried again if it waits and is left out of the queue
abbrev pub stray_tried : (at : ℕ) → BooksState → BooksState
stray_tried at books = if strays (slice_get books.row.guests at) then tried_again at books else books

-- those at `count` places from `from` on were tried again if they wait and are left out of the queue
abbrev pub strays_tried : (count from : ℕ) → BooksState → BooksState
strays_tried zero from books = books
strays_tried (suc count) from books = stray_tried (from + count) (strays_tried count from books)

-- the sleepers that aren't queued are retried, if there are strays
abbrev pub all_strays_tried : BooksState → BooksState
all_strays_tried books = if books.has_strays
    then strays_tried (length books.row.guests - books.awake) books.awake (record books { has_strays = false }) else books

-- waiting guests are retried: first in turn, then all others, then strays
pub record LetsOnAll (old new : BooksState) : Type 0 where
  pub after_turns : BooksState
  pub after_looks : BooksState
  pub turns : GoInTurn old after_turns
  pub looks : GoBeside after_turns after_looks
  pub strays : new ≡ all_strays_tried after_looks

-- a retry begins: nothing is promised yet, and no guest waits for the oldest
abbrev pub begun_anew : BooksState → BooksState
begun_anew books = record books { budget = retried books.budget }

-- each guest has a number
abbrev pub IsWhole : RowState → Type 0
IsWhole row = length row.numbers ≡ length row.guests

-- a guest that waits in the queue by this number finds no room, beside what was promised
abbrev pub FindsNone : BooksState → (number : ℕ) → Type 0
FindsNone books number = (at : ℕ) (guest : RowGuest) → HasNumber books.row at number → StandsAt at books.row guest
    → IsTrue (is_queued guest) → IsFalse (finds_room guest books)

-- if a retry is due, waiting guests are retried; else nothing changes
pub record LetsOn (old new : BooksState) : Type 0 where
  pub due : IsTrue (is_retry_due old.budget) → LetsOnAll (begun_anew old) new
  pub early : IsFalse (is_retry_due old.budget) → new ≡ old
