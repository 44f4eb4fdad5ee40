-- Which guests are judged, as they hold much, and which are ended, as they read much that has left the store.
use Rattle.std.specs.Prelude.{◌≡◌, ◌<◌, ◌≤◌, ◌&&◌, nat_lt, ℕ, Bool, true, List, length, slice_get, Option, Some, None, if◌then◌else◌}
use Rattle.mc_guests.specs.Budgets.{plus, own, CountsLeft}
use Rattle.mc_guests.specs.Guests.{RowGuest, reads_left}
use Rattle.mc_guests.specs.LinkRates.{begun, asked_again, rate, is_slow, was_asked}
use Rattle.mc_guests.specs.Books.{RowState, StandsAt, HasNumber, with_guest}
use Rattle.mc_guests.specs.declared.metered.Verdict.{Verdict}
use Rattle.mc_guests.specs.declared.metered.Verdict.TheVariants.{Asks, Ends}
use Rattle.mc_guests.specs.declared.budget.Budget.{Budget}
use Rattle.mc_guests.specs.declared.metered.Sought.{Sought}
use Rattle.mc_guests.specs.declared.metered.Sought.TheVariants.{Hoarder, Reader}

-- whether a guest holds more than its own bytes, and its link is slow for as much as it holds
abbrev pub is_hoarding : (ticks : ℕ) → RowGuest → Bool
is_hoarding ticks guest = nat_lt 0 guest.counted && is_slow (plus guest.counted own) ticks guest.pace

-- the rate of a guest that may be judged
unfoldable pub slowness : (ticks : ℕ) → RowGuest → Option ℕ
slowness ticks guest = if is_hoarding ticks guest then Some (rate ticks guest.pace) else None

-- the rate of a guest that may be ended for what has left the store: one that is counted for some of it
unfoldable pub reading_rate : (ticks : ℕ) → RowGuest → Option ℕ
reading_rate ticks guest = if nat_lt 0 guest.left then Some (rate ticks guest.pace) else None

-- the rate of a guest that is sought, by what is sought
abbrev pub sought_rate : Sought → (ticks : ℕ) → RowGuest → Option ℕ
sought_rate Hoarder = slowness
sought_rate Reader = reading_rate

-- Guests are sought that have a rate.
module _ (rate_of : RowGuest → Option ℕ) where
  -- none of the first `count` guests is sought
  abbrev pub NoneIsSought : (count : ℕ) (guests : List RowGuest) → Type 0
  NoneIsSought count guests = (other : ℕ) (rival : RowGuest) → other < count → slice_get guests other ≡ Some rival
      → rate_of rival ≡ None

  -- of the first `count` guests that are sought the one at a place has the lowest rate, and is the first that has it
  pub record IsSlowest (count at lowest : ℕ) (guests : List RowGuest) : Type 0 where
    pub guest : RowGuest
    pub stands : slice_get guests at ≡ Some guest
    pub slow : rate_of guest ≡ Some lowest
    pub lower : (other rate : ℕ) (rival : RowGuest) → other < count → slice_get guests other ≡ Some rival
        → rate_of rival ≡ Some rate → lowest ≤ rate
    pub first : (other rate : ℕ) (rival : RowGuest) → other < at → slice_get guests other ≡ Some rival
        → rate_of rival ≡ Some rate → lowest < rate

  -- the place and the rate of the slowest of the first `count` guests, if one is sought
  abbrev pub FindsSlowest : (count : ℕ) → Option (ℕ × ℕ) → (guests : List RowGuest) → Type 0
  FindsSlowest count None guests = NoneIsSought count guests
  FindsSlowest count (Some found) guests = IsSlowest count found.0 found.1 guests

-- whether a rate is below that of the slowest guest before, if there is one
abbrev pub undercuts : (rate : ℕ) → Option (ℕ × ℕ) → Bool
undercuts rate None = true
undercuts rate (Some found) = nat_lt rate found.1

-- what is done with a guest whose link has this number: the link is closed if it was asked again in the last 2 s, and
-- else is asked again
abbrev pub verdict : (ticks number : ℕ) → RowGuest → Verdict
verdict ticks number guest = if was_asked ticks guest.pace then Ends number else Asks number

-- a guest after that: its pace begins anew, or it was asked again
abbrev pub judged : (ticks : ℕ) → RowGuest → RowGuest
judged ticks guest = record guest {
  pace = if was_asked ticks guest.pace then begun ticks else asked_again ticks guest.pace;
}

-- the guest at a place was judged, by the number of its link; no other guest changes
pub record JudgesAt (ticks at : ℕ) (result : Verdict) (old new : RowState) : Type 0 where
  pub guest : RowGuest
  pub stands : StandsAt at old guest
  pub number : ℕ
  pub has_it : HasNumber old at number
  pub says : result ≡ verdict ticks number guest
  pub row : new ≡ with_guest (judged ticks) at old

-- the slowest guest was judged
pub record JudgesSlowest (ticks : ℕ) (result : Verdict) (old new : RowState) : Type 0 where
  pub at : ℕ
  pub lowest : ℕ
  pub slowest : IsSlowest (slowness ticks) (length old.guests) at lowest old.guests
  pub judges : JudgesAt ticks at result old new

-- the slowest guest was judged, or none may be and nothing changes
abbrev pub Judges : (ticks : ℕ) → Option Verdict → (old new : RowState) → Type 0
Judges ticks None old new = NoneIsSought (slowness ticks) (length old.guests) old.guests × (new ≡ old)
Judges ticks (Some result) old new = JudgesSlowest ticks result old new

-- the guest at a place is counted for this many bytes that have left the store, in place of those before; nothing else
-- changes
pub record RecountsAt (at left : ℕ) (old new : RowState) (before after : Budget) : Type 0 where
  pub guest : RowGuest
  pub stands : StandsAt at old guest
  pub row : new ≡ with_guest (reads_left left) at old
  pub budget : CountsLeft guest.left left before after

-- the slowest of those that read what has left the store is counted for none of it, and its link has this number
pub record EndsSlowest (number : ℕ) (old new : RowState) (before after : Budget) : Type 0 where
  pub at : ℕ
  pub lowest : ℕ
  pub slowest : IsSlowest (reading_rate before.ticks) (length old.guests) at lowest old.guests
  pub has_it : HasNumber old at number
  pub ends : RecountsAt at 0 old new before after

-- the slowest reader is ended, or nobody reads what has left and nothing changes
abbrev pub EndsReader : Option ℕ → (old new : RowState) (before after : Budget) → Type 0
EndsReader None old new before after =
    NoneIsSought (reading_rate before.ticks) (length old.guests) old.guests × (new ≡ old) × (after ≡ before)
EndsReader (Some number) old new before after = EndsSlowest number old new before after
