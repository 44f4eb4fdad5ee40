-- The books that a worker has of its guests.
use Rattle.std.specs.Prelude.{◌≡◌, ◌⊎◌, ◌≤◌, ◌<◌, ◌+◌, ◌-◌, ◌^◌, ◌==◌, ◌&&◌, not, ℕ, zero, suc, List, [], ◌∷◌, ◌++◌, length, map, take, drop, min, swap, slice_get, Option, Some, Bool, true, false, IsTrue, IsFalse}
use Rattle.mc_guests.specs.Budgets.{rest_of, may_try}
use Rattle.mc_guests.specs.Guests.{GuestState, RowGuest, newcomer, has_ended, is_to_sleep, is_stray, in_line, reads_left}
use Rattle.mc_time.specs.Chains.{Repeats}
use Rattle.mc_guests.specs.declared.budget.Budget.{Budget}
use Rattle.mc_guests.specs.declared.metered.WaitState.TheVariants.{Queued}
use Rattle.mc_guests.specs.declared.guest.Visit.{Visit}
use Rattle.mc_guests.specs.declared.guest.Visit.TheVariants.{Served, Broken, Refused}
use Rattle.mc_guests.specs.declared.guests.WorkEnd.{WorkEnd}
use Rattle.mc_guests.specs.declared.guests.NextState.{NextState}
use Rattle.mc_guests.specs.declared.guests.NextState.TheVariants.{Waits, Sleeps, Ended}

-- guests in a row, and beside each the number of its link
pub record RowState : Type 0 where
  pub guests : List RowGuest
  pub numbers : List ℕ

-- no guests
abbrev pub nobody : RowState
nobody = record { guests = []; numbers = [] }

-- the link of the guest at a place has this number
abbrev pub HasNumber : RowState → (at number : ℕ) → Type 0
HasNumber row at number = slice_get row.numbers at ≡ Some number

-- the place of each number that stands in the row is found, and no other place
pub record TellsPlaces (place_of : ℕ → Option ℕ) (numbers : List ℕ) : Type 0 where
  pub told : (number at : ℕ) → place_of number ≡ Some at → slice_get numbers at ≡ Some number
  pub all : (number at : ℕ) → slice_get numbers at ≡ Some number → place_of number ≡ Some at

-- two of them change places
abbrev pub swapped : (one other : ℕ) → RowState → RowState
swapped one other row = record {
  guests = swap row.guests one other;
  numbers = swap row.numbers one other;
}

-- those from a place on are gone
abbrev pub cut : ℕ → RowState → RowState
cut at row = record { guests = take at row.guests; numbers = take at row.numbers }

-- a guest stands behind the others, and beside it the number of its link
abbrev pub joined : GuestState → ℕ → RowState → RowState
joined guest number row = record {
  guests = row.guests ++ newcomer guest ∷ [];
  numbers = row.numbers ++ number ∷ [];
}

-- one of a list is changed
abbrev pub changed : {A : Type 0} → (A → A) → (at : ℕ) → List A → List A
changed change at [] = []
changed change zero (x ∷ xs) = change x ∷ xs
changed change (suc at) (x ∷ xs) = x ∷ changed change at xs

-- one of the guests is changed
abbrev pub with_guest : (RowGuest → RowGuest) → (at : ℕ) → RowState → RowState
with_guest change at row = record row { guests = changed change at row.guests }

-- the guest at a place
abbrev pub StandsAt : ℕ → RowState → RowGuest → Type 0
StandsAt at row guest = slice_get row.guests at ≡ Some guest

-- Guests in a row; the first `awake` of them are awake. What they hold together, with its limit. The queue of
-- those that wait, oldest first, by the numbers of their links; whether the turn is the newest's, and not the oldest's;
-- and whether some that wait were left out of it, as memory was refused. How many links were let go, modulo 2^64.
pub record BooksState : Type 0 where
  pub row : RowState
  pub awake : ℕ
  pub budget : Budget
  pub queue : List ℕ
  pub is_last : Bool
  pub has_strays : Bool
  pub gone : ℕ

-- what contracts see of guests with these fields
abbrev pub books : RowState → (awake : ℕ) → Budget → (queue : List ℕ) → (is_last has_strays : Bool) → (gone : ℕ) → BooksState
books row awake budget queue last strays gone =
    record { row = row; awake = awake; budget = budget; queue = queue; is_last = last; has_strays = strays; gone = gone }

-- no guests, and a budget that counts none
abbrev pub no_books : Budget → BooksState
no_books budget = books nobody 0 (rest_of budget) [] false false 0

-- no guest is awake, and none that is kept waiting may be tried again
abbrev pub quiet : BooksState → Bool
quiet books = books.awake == 0 && not (may_try books.budget)

-- the same guests, but for what each is counted for that has left the store
pub record SameButLeft (old new : RowState) : Type 0 where
  pub guests : map (reads_left 0) new.guests ≡ map (reads_left 0) old.guests
  pub numbers : new.numbers ≡ old.numbers

-- the time is set, in ticks, and guests are counted anew for what has left the store
pub record SetsTicks (ticks : ℕ) (old new : BooksState) : Type 0 where
  pub row : SameButLeft old.row new.row
  pub rest : new ≡ record old { row = new.row; budget = record old.budget { ticks = ticks; left = new.budget.left } }

-- readers of what has left the store were ended in this tick
abbrev pub took_ending : BooksState → BooksState
took_ending books = record books { budget = record books.budget { ended = books.budget.ticks } }

-- the judgement of slow guests was taken in this tick
abbrev pub took_judging : BooksState → BooksState
took_judging books = record books { budget = record books.budget { judged = books.budget.ticks } }

-- the guest at a place wakes, and is the last of the awake guests
abbrev pub woken : ℕ → BooksState → BooksState
woken at books = record books {
  row = swapped at books.awake books.row;
  awake = books.awake + 1;
}

-- the guest at a place falls asleep: it changes places with the last that is awake
abbrev pub put_behind : ℕ → BooksState → BooksState
put_behind at books = record books {
  row = swapped at (books.awake - 1) books.row;
  awake = books.awake - 1;
}

-- the guest at a place is put into the queue, as the newest
abbrev pub queued_up : (at number : ℕ) → BooksState → BooksState
queued_up at number books = record books {
  row = with_guest (in_line Queued) at books.row;
  queue = books.queue ++ number ∷ [];
}

-- The guest at a place, which waits, falls asleep. It is in the queue then, as the newest; if memory was refused it is
-- left out, and there are strays.
abbrev pub LinesUp : (at : ℕ) (old new : BooksState) → Type 0
LinesUp at old new = ((number : ℕ) × HasNumber old.row at number × (new ≡ put_behind at (queued_up at number old)))
    ⊎ (new ≡ put_behind at (record old { has_strays = true }))

-- An awake guest is removed. The last awake guest takes its place, and the last guest takes that
-- one's.
abbrev pub let_gone : ℕ → BooksState → BooksState
let_gone at books = record books {
  row = cut (length books.row.guests - 1)
      (swapped (books.awake - 1) (length books.row.guests - 1) (swapped at (books.awake - 1) books.row));
  awake = books.awake - 1;
}

-- the guest at a place goes, and its link: it isn't counted any more, and memory came back
pub record LetsGo (at : ℕ) (old new : BooksState) : Type 0 where
  pub books : new ≡ record (let_gone at old) { budget = new.budget; gone = new.gone }
  pub rest : rest_of new.budget ≡ rest_of old.budget
  pub eased : IsTrue new.budget.is_eased

-- a guest came, and is awake
abbrev pub let_in : GuestState → ℕ → BooksState → BooksState
let_in guest number books =
    woken (length books.row.guests) (record books { row = joined guest number books.row })

-- the guest at a place sleeps
pub record SleepsAt (at : ℕ) (books : BooksState) : Type 0 where
  pub stands : at < length books.row.guests
  pub behind : books.awake ≤ at

-- the guest whose link has this number wakes if it sleeps; else none does
pub record WakesOne (number : ℕ) (old new : BooksState) : Type 0 where
  pub at : ℕ
  pub has_it : HasNumber old.row at number
  pub sleeps : SleepsAt at old
  pub books : new ≡ woken at old

-- none that sleeps has a link of this number, and none wakes
pub record WakesNone (number : ℕ) (old new : BooksState) : Type 0 where
  pub awake : (at : ℕ) → HasNumber old.row at number → at < old.awake
  pub books : new ≡ old

-- the guest wakes whose link has this number, if it sleeps
abbrev pub Wakes : ℕ → (old new : BooksState) → Type 0
Wakes number old new = WakesOne number old new ⊎ WakesNone number old new

-- one more; a count that is full stays
abbrev pub one_more : ℕ → ℕ
one_more count = min (count + 1) (2 ^ 64 - 1)

-- an ending is counted, by the last answer
abbrev pub counted : Option Visit → WorkEnd → WorkEnd
counted (Some Served) count = record count { served = one_more count.served }
counted (Some Broken) count = record count { broken = one_more count.broken }
counted (Some Refused) count = record count { refused = one_more count.refused }
counted last count = count

-- whether a guest is to go
abbrev pub is_over : NextState → Bool
is_over Ended = true
is_over fate = false

-- whether a guest is to sleep
abbrev pub is_asleep : NextState → Bool
is_asleep Waits = true
is_asleep Sleeps = true
is_asleep fate = false

-- whether a guest is to be put into the queue
abbrev pub is_to_queue : NextState → Bool
is_to_queue Waits = true
is_to_queue fate = false

-- what becomes of the guest at a place: it is to go if it has ended, which is counted, and else to sleep if it waits for
-- room or its link gave or took nothing; if it waits and is left out of the queue it is put into it
pub record IsFateOf (at : ℕ) (row : RowState) (fate : NextState) (before after : WorkEnd) : Type 0 where
  pub guest : RowGuest
  pub stands : StandsAt at row guest
  pub over : is_over fate ≡ has_ended guest.guest.last
  pub asleep : IsFalse (is_over fate) → is_asleep fate ≡ is_to_sleep guest
  pub queue : IsFalse (is_over fate) → is_to_queue fate ≡ is_stray guest
  pub counts : after ≡ counted guest.guest.last before

-- The guest at a place was settled: if it has ended it is gone, and counted. If it waits and is left out of the queue it
-- is put into it, and sleeps. Else it sleeps if it is to sleep, and stays awake if not.
pub record Settles (at : ℕ) (old new : BooksState) (before after : WorkEnd) : Type 0 where
  pub guest : RowGuest
  pub stands : StandsAt at old.row guest
  pub goes : IsTrue (has_ended guest.guest.last) → LetsGo at old new
  pub lines_up : IsFalse (has_ended guest.guest.last) → IsTrue (is_stray guest) → LinesUp at old new
  pub sleeps : IsFalse (has_ended guest.guest.last) → IsFalse (is_stray guest) → IsTrue (is_to_sleep guest)
      → new ≡ put_behind at old
  pub stays : IsFalse (has_ended guest.guest.last) → IsFalse (is_to_sleep guest) → new ≡ old
  pub counts : after ≡ counted guest.guest.last before

-- The guest before a place was settled: the places from which on guests are settled, the books, and the endings that are
-- counted, each before that and after it.
pub record SettlesBefore (old new : ℕ × BooksState × WorkEnd) : Type 0 where
  pub place : old.0 ≡ new.0 + 1
  pub settles : Settles new.0 old.1 new.1 old.2 new.2

-- the awake guests from a place on were settled, the last one first
abbrev pub SettlesFrom : (at : ℕ) (old new : BooksState) (before after : WorkEnd) → Type 0
SettlesFrom at old new before after =
    (count : ℕ) × Repeats SettlesBefore count (old.awake, old, before) (at, new, after)

-- a round leaves the sleepers, all numbers, who is awake, the share, and the queue
pub record KeepsBooks (old new : BooksState) : Type 0 where
  pub share : new.budget.share ≡ old.budget.share
  pub asleep : drop old.awake new.row.guests ≡ drop old.awake old.row.guests
  pub numbers : new.row.numbers ≡ old.row.numbers
  pub same : new ≡ record old { row = new.row; budget = new.budget }
