-- How much memory the guests of one worker may hold together.
use Rattle.std.specs.Prelude.{◌≡◌, ◌⊎◌, ◌<◌, ◌≤◌, ℕ, ◌+◌, ◌-◌, ◌/◌, ◌==◌, ◌&&◌, ◌||◌, Bool, false, cond, if◌then◌else◌, not, nat_lt, nat_le, min, max, List, length, IsTrue, IsFalse}
use Rattle.std.specs.List.{sum_by}
use Rattle.mc_session.specs.Turns.{SessionState}
use Rattle.mc_guests.specs.Asks.{little, most, StaysOrLosesLink}
use Rattle.mc_guests.specs.Guests.{GuestState, RowGuest, has_ended, is_queued, is_tried, reads_left}
use Rattle.mc_guests.specs.LinkRates.{begun}
use Rattle.mc_guests.specs.declared.budget.Budget.{Budget}
use Rattle.mc_guests.specs.declared.metered.WaitState.TheVariants.{Out}

-- the bytes that each guest has as its own: it is counted for what it holds beyond them
abbrev pub own : ℕ
own = 73728

-- a sum, at most the greatest number
abbrev pub plus : ℕ → ℕ → ℕ
plus one other = min (one + other) most

-- a budget of `share` bytes without guests; each guest may want up to `greatest` at once
abbrev pub unused : (share greatest : ℕ) → Budget
unused share greatest = record {
  share = share;
  tight = max (share - plus greatest little) (share / 2);
  held = 0;
  left = 0;
  large = 0;
  waiting = 0;
  is_eased = false;
  is_kept = false;
  promised = 0;
  ticks = 0;
  tried = 0;
  judged = 0;
  ended = 0;
}

-- whether there is room for one more guest that wants this many bytes: for a little always, and for more if so much is
-- left or if no other guest that goes on holds more than its own bytes
abbrev pub fits : ℕ → Budget → Bool
fits wanted budget =
    (nat_le wanted little || nat_le wanted (budget.share - budget.held)) || budget.large == 0

-- whether a waiting guest finds room for this many bytes more, beside what was promised
abbrev pub has_left : ℕ → Budget → Bool
has_left wanted budget = nat_le wanted (budget.share - plus budget.held budget.promised)
    || (budget.large == 0 && budget.promised == 0)

-- this many bytes more are promised
abbrev pub promised_more : ℕ → Budget → Budget
promised_more more budget = record budget { promised = plus budget.promised more }

-- whether the budget may soon be used up: a guest waits, or much is held
abbrev pub is_tight : Budget → Bool
is_tight budget = nat_lt 0 budget.waiting || nat_lt budget.tight budget.held

-- whether others wait for the oldest that waits
abbrev pub is_kept_for_one : Budget → Bool
is_kept_for_one budget = budget.is_kept && nat_lt 0 budget.waiting

-- a guest wants more than a little, and others wait for the oldest that waits, or so much isn't left while another guest
-- holds more than its own bytes
pub record LacksRoom (budget : Budget) : Type 0 where
  pub wanted : ℕ
  pub much : little < wanted
  pub number : wanted ≤ most
  pub full : IsTrue (is_kept_for_one budget) ⊎ IsFalse (fits wanted budget)

-- a guest that isn't visited has ended, or lacks room in what the budget counts of the others
abbrev pub IsHeldBack : GuestState → (others : Budget) → Type 0
IsHeldBack guest others = IsTrue (has_ended guest.last) ⊎ LacksRoom others

-- one that is kept waiting may be tried again: memory came back since one was kept waiting in vain
abbrev pub may_try : Budget → Bool
may_try budget = budget.is_eased && nat_lt 0 budget.waiting

-- whether waiting guests are retried now: there are some, and memory came back or a tick has passed
abbrev pub is_retry_due : Budget → Bool
is_retry_due budget = nat_lt 0 budget.waiting && (budget.is_eased || not (budget.ticks == budget.tried))

-- waiting guests are retried
abbrev pub retried : Budget → Budget
retried budget = record budget { is_eased = false; is_kept = false; promised = 0; tried = budget.ticks }

-- how many slow guests are judged now: as many as wait, at most 16, and none if some were in this tick
abbrev pub to_judge : Budget → ℕ
to_judge budget = if budget.ticks == budget.judged then 0 else min budget.waiting 16

-- one if a test holds
abbrev pub one_if : Bool → ℕ
one_if test = cond test 1 0

-- whether a guest goes on and holds more than its own bytes
abbrev pub is_large : (bytes : ℕ) (waits : Bool) → Bool
is_large bytes waits = not waits && nat_lt 0 bytes

-- a guest isn't counted any more that was counted for this many bytes
abbrev pub uncounted : (bytes : ℕ) (waits : Bool) → Budget → Budget
uncounted bytes waits budget = record budget {
  held = budget.held - bytes;
  waiting = budget.waiting - one_if waits;
  large = budget.large - one_if (is_large bytes waits);
}

-- A guest goes on as it was; or it waits, held back by what the budget counts of the others, and is as it was or has ended
-- with its link.
pub record GoesOnOrWaits (goes_on : Bool) (old new : RowGuest) (budget : Budget) : Type 0 where
  pub stays : StaysOrLosesLink old.guest new.guest
  pub goes : IsTrue goes_on → new.guest ≡ old.guest
  pub held_back : IsFalse goes_on → IsHeldBack new.guest (uncounted old.counted old.waits budget)
  pub waits : new.waits ≡ not goes_on

-- A guest has room for this many bytes, by what the budget counts of the others. It wants a little, or no more than it is
-- counted for and has as its own, which it was admitted for. Otherwise so much fits; and it doesn't go before others that
-- wait, unless it is tried again.
pub record HasRoom (wanted : ℕ) (guest : RowGuest) (others : Budget) : Type 0 where
  pub room : little < wanted → guest.counted + own < wanted → IsTrue (fits wanted others)
  pub first : little < wanted → guest.counted + own < wanted → IsTrue (is_kept_for_one others) → IsTrue (is_tried guest)

-- memory came back if the test holds; otherwise it is as it was
pub record EasesIf (test : Bool) (before after : Budget) : Type 0 where
  pub eased : after.is_eased ≡ (before.is_eased || test)

-- A guest waits: it stays in the queue if it waited there, and is left out otherwise. If it begins to wait, its pace begins,
-- and the others are tried again if it was counted for some bytes.
pub record StaysInLine (old new : RowGuest) (before after : Budget) : Type 0 where
  pub line : new.line ≡ (if is_queued old then old.line else Out)
  pub pace : new.pace ≡ (if old.waits then old.pace else begun before.ticks)
  pub eased : EasesIf (not old.waits && nat_lt 0 old.counted) before after

-- one more guest is counted for this many bytes
abbrev pub counted_too : (bytes : ℕ) (waits : Bool) → Budget → Budget
counted_too bytes waits budget = record budget {
  held = budget.held + bytes;
  waiting = plus budget.waiting (one_if waits);
  large = plus budget.large (one_if (is_large bytes waits));
}

-- the same, while guests read this many bytes of memory that has left the store
abbrev pub with_left : (left : ℕ) → Budget → Budget
with_left left budget = record budget { left = left }

-- whether guests read more of what has left than their share
abbrev pub is_over : Budget → Bool
is_over budget = nat_lt budget.share budget.left

-- how many readers of what has left may be ended now: 16 if that is more than the share, and none if some were in this
-- tick
abbrev pub to_end : Budget → ℕ
to_end budget = if budget.ticks == budget.ended then 0 else (if is_over budget then 16 else 0)

-- beside what a budget counts of others that has left the store it counts this many bytes, in place of those before;
-- nothing else of it changes
pub record CountsLeft (was left : ℕ) (before after : Budget) : Type 0 where
  pub sum : (others : ℕ) → before.left ≡ others + was → after.left ≡ others + left
  pub rest : after ≡ with_left after.left before

-- a guest is counted for this many bytes that have left the store, in place of those before; nothing else changes
pub record RecountsLeft (left : ℕ) (old new : RowGuest) (before after : Budget) : Type 0 where
  pub guest : new ≡ reads_left left old
  pub budget : CountsLeft old.left left before after

-- what a budget has beside what it counts, and whether memory came back
abbrev pub rest_of : Budget → Budget
rest_of budget = record budget { held = 0; left = 0; large = 0; waiting = 0; is_eased = false }

-- A guest is counted anew: beside what the budget counts of others it counts the guest as it is now. Nothing else of the
-- budget changes but whether memory came back.
pub record Recounts (old new : RowGuest) (before after : Budget) : Type 0 where
  pub held : (others : ℕ) → before.held ≡ others + old.counted → after.held ≡ others + new.counted
  pub waiting : (others : ℕ) → others < most → before.waiting ≡ others + one_if old.waits
      → after.waiting ≡ others + one_if new.waits
  pub large : (others : ℕ) → others < most → before.large ≡ others + one_if (is_large old.counted old.waits)
      → after.large ≡ others + one_if (is_large new.counted new.waits)
  pub left : (others : ℕ) → before.left ≡ others + old.left → after.left ≡ others + new.left
  pub rest : rest_of after ≡ rest_of before

-- a guest that is counted for this many bytes may hold these unread bytes; and this output, of which so many bytes are
-- lent
pub record Covers (counted lent : ℕ) (session : SessionState) : Type 0 where
  pub unread : length session.unread.bytes ≤ counted + own
  pub out : length session.out ≤ counted + own + lent
  pub within : lent ≤ length session.out

-- a guest is counted for what it holds, unless the budget counts the greatest number of bytes
abbrev pub IsCounted : RowGuest → Budget → Type 0
IsCounted guest budget = budget.held < most → Covers guest.counted guest.lent guest.guest.session

-- the bytes that guests are counted for
abbrev pub held_by : List RowGuest → ℕ
held_by guests = sum_by (λ guest. guest.counted) guests

-- how many guests wait
abbrev pub waiting_of : List RowGuest → ℕ
waiting_of guests = sum_by (λ guest. one_if guest.waits) guests

-- how many guests go on and hold more than their own bytes
abbrev pub large_of : List RowGuest → ℕ
large_of guests = sum_by (λ guest. one_if (is_large guest.counted guest.waits)) guests

-- the bytes that guests are counted for and that have left the store
abbrev pub left_by : List RowGuest → ℕ
left_by guests = sum_by (λ guest. guest.left) guests

-- these are the sums over guests
pub record AreSums (held waiting large left : ℕ) (guests : List RowGuest) : Type 0 where
  pub bytes : held ≡ held_by guests
  pub waits : waiting ≡ waiting_of guests
  pub larges : large ≡ large_of guests
  pub lefts : left ≡ left_by guests

-- a budget counts these guests, each once, and no others
abbrev pub CountsAll : Budget → List RowGuest → Type 0
CountsAll budget guests = AreSums budget.held budget.waiting budget.large budget.left guests

-- Guests are counted anew: beside what the budget counts of others it counts them as they are now.
pub record RecountsAll (olds news : List RowGuest) (before after : Budget) : Type 0 where
  pub held : (others : ℕ) → before.held ≡ others + held_by olds → after.held ≡ others + held_by news
  pub waiting : (others : ℕ) → others + length olds ≤ most → before.waiting ≡ others + waiting_of olds
      → after.waiting ≡ others + waiting_of news
  pub large : (others : ℕ) → others + length olds ≤ most → before.large ≡ others + large_of olds
      → after.large ≡ others + large_of news
  pub left : (others : ℕ) → before.left ≡ others + left_by olds → after.left ≡ others + left_by news
  pub rest : rest_of after ≡ rest_of before
