-- Guests that are counted anew for what has left the store.
use Rattle.std.specs.Prelude.{slice_get, slice_set, nat_lt, is_some, IfSome, if◌then◌else◌}
use Rattle.std.proofs.Common.{◌≡◌, ℕ, zero, suc, ◌-◌, Bool, true, false, List, [], ◌∷◌, length, map, Option, Some, None, refl, sym, ap, ◌∙◌, subst, arith, ltb-true, ltb-false}
use Rattle.std.proofs.lemmas.List.{length-map}
use Rattle.std.proofs.lemmas.List.Sums.{sum_by-cons}
use Rattle.std.proofs.lemmas.Option.{none-some}
use Rattle.mc_guests.specs.Budgets.{is_over, CountsAll, CountsLeft, RecountsLeft, left_by, one_if, is_large}
use Rattle.mc_guests.specs.Guests.{RowGuest, reads_left}
use Rattle.mc_guests.specs.Books.{RowState, SameButLeft, changed}
use Rattle.mc_guests.specs.Judging.{reading_rate, NoneIsSought, RecountsAt, EndsSlowest, EndsReader}
use Rattle.mc_guests.specs.LinkRates.{rate}
use Rattle.mc_guests.specs.declared.budget.Budget.{Budget}
use Rattle.mc_guests.proofs.JudgeLemmas.{length_changed, set_changed, sum_changed}
use Rattle.mc_guests.proofs.SwapLemmas.{changed_sum}

-- the same guests, but for what has left
pub same_none : (row : RowState) → SameButLeft row row
same_none row = record { guests = refl; numbers = refl }

pub same_then : (old mid new : RowState) → SameButLeft old mid → SameButLeft mid new → SameButLeft old new
same_then old mid new first second = record { guests = second.guests ∙ first.guests; numbers = second.numbers ∙ first.numbers }

pub same_long : (old new : RowState) → SameButLeft old new → length new.guests ≡ length old.guests
same_long old new same =
    sym (length-map new.guests (reads_left 0)) ∙ ap (λ (l : List RowGuest). length l) same.guests ∙ length-map old.guests (reads_left 0)

same_changed : (left at : ℕ) (guests : List RowGuest) → map (reads_left 0) (changed (reads_left left) at guests) ≡ map (reads_left 0) guests
same_changed left at [] = refl
same_changed left zero (guest ∷ guests) = refl
same_changed left (suc at) (guest ∷ guests) = ap (λ (l : List RowGuest). reads_left 0 guest ∷ l) (same_changed left at guests)

-- the guest that stands at a place is set to what it is counted anew
pub recounts_set : (at left : ℕ) (guest lent later : RowGuest) (numbers : List ℕ) (items : List RowGuest) (row : RowState) (before after : Budget)
    → record { guests = items; numbers = numbers } ≡ row → slice_get items at ≡ Some guest → lent ≡ guest → RecountsLeft left lent later before after
    → RecountsAt at left row (record { guests = slice_set items at later; numbers = numbers }) before after
recounts_set at left guest lent later numbers items row before after is stands same recounts =
    subst (λ (r : RowState). RecountsAt at left r (record { guests = slice_set items at later; numbers = numbers }) before after) is (record {
      guest = guest;
      stands = stands;
      row = ap (λ (l : List RowGuest). record { guests = l; numbers = numbers })
          (set_changed (reads_left left) at items guest later stands (recounts.guest ∙ ap (reads_left left) same));
      budget = subst (λ (g : RowGuest). CountsLeft g.left left before after) same recounts.budget;
    })

-- the guest at a place is counted anew
module _ (at left : ℕ) (old new : RowState) (before after : Budget) (recounts : RecountsAt at left old new before after) where
  pub recounted_same : SameButLeft old new
  recounted_same = record {
    guests = ap (λ (r : RowState). map (reads_left 0) r.guests) recounts.row ∙ same_changed left at old.guests;
    numbers = ap (λ (r : RowState). r.numbers) recounts.row;
  }

  lefts_changed : before.left ≡ left_by old.guests → after.left ≡ left_by (changed (reads_left left) at old.guests)
  lefts_changed is =
      let put = changed_sum (reads_left left) (λ g. g.left) at old.guests recounts.guest recounts.stands in
      let least = changed_sum (reads_left 0) (λ g. g.left) at old.guests recounts.guest recounts.stands in
      let counted = recounts.budget.sum (before.left - recounts.guest.left) (omega (arith, is, least)) in
      omega (arith, is, put, least, counted)

  pub recounted_counts : CountsAll before old.guests → CountsAll after new.guests
  recounted_counts counts =
      subst (λ (r : RowState). CountsAll after r.guests) (sym recounts.row) (record {
        bytes = ap (λ (b : Budget). b.held) recounts.budget.rest ∙ counts.bytes ∙ sym (sum_changed (reads_left left) (λ g. g.counted) (λ _. refl) at old.guests);
        waits = ap (λ (b : Budget). b.waiting) recounts.budget.rest ∙ counts.waits ∙ sym (sum_changed (reads_left left) (λ g. one_if g.waits) (λ _. refl) at old.guests);
        larges = ap (λ (b : Budget). b.large) recounts.budget.rest ∙ counts.larges
            ∙ sym (sum_changed (reads_left left) (λ g. one_if (is_large g.counted g.waits)) (λ _. refl) at old.guests);
        lefts = lefts_changed counts.lefts;
      })

-- whether or not a reader was ended, as many stand in the row, and they are counted
pub ends_long : (result : Option ℕ) (old new : RowState) (before after : Budget) → EndsReader result old new before after → length new.guests ≡ length old.guests
ends_long None old new before after ends = ap (λ (r : RowState). length r.guests) ends.1
ends_long (Some number) old new before after ends = ap (λ (r : RowState). length r.guests) ends.ends.row ∙ length_changed (reads_left 0) ends.at old.guests

pub ends_counts : (result : Option ℕ) (old new : RowState) (before after : Budget) → EndsReader result old new before after → CountsAll before old.guests → CountsAll after new.guests
ends_counts None old new before after ends counts =
    subst (λ (r : RowState). CountsAll after r.guests) (sym ends.1) (subst (λ (b : Budget). CountsAll b old.guests) (sym ends.2) counts)
ends_counts (Some number) old new before after ends counts = recounted_counts ends.at 0 old new before after ends.ends counts

pub ends_some : (result : Option ℕ) (old new : RowState) (before after : Budget) → EndsReader result old new before after
    → IfSome result (λ number. EndsSlowest number old new before after)
ends_some None old new before after ends = tt
ends_some (Some number) old new before after ends = ends

-- nobody reads what has left where nobody is sought for it
reads_none : (ticks : ℕ) (guest : RowGuest) → reading_rate ticks guest ≡ None → guest.left ≡ 0
unfolding reading_rate
reads_none ticks guest none = by_test (nat_lt 0 guest.left) refl none
  where
    by_test : (b : Bool) → nat_lt 0 guest.left ≡ b → (if b then Some (rate ticks guest.pace) else None) ≡ None → guest.left ≡ 0
    by_test true is none = absurd (none-some (rate ticks guest.pace) (sym none))
    by_test false is none = let none_left = ltb-false 0 guest.left is in omega (arith, none_left)

none_read : (ticks : ℕ) (guests : List RowGuest) → NoneIsSought (reading_rate ticks) (length guests) guests → left_by guests ≡ 0
none_read ticks [] none = refl
none_read ticks (guest ∷ guests) none =
    let first = reads_none ticks guest (none 0 guest (omega arith) refl) in
    let rest = none_read ticks guests (λ other rival within is. none (suc other) rival (omega (arith, within)) is) in
    let all = sum_by-cons (λ g. g.left) guest guests in
    omega (arith, first, rest, all)

-- one is ended where they read more than the share
pub some_ended : (result : Option ℕ) (old new : RowState) (before after : Budget) → EndsReader result old new before after → CountsAll before old.guests
    → is_over before ≡ true → is_some result ≡ true
some_ended None old new before after ends counts over =
    let none = none_read before.ticks old.guests ends.0 in
    let more = ltb-true before.share before.left over in
    absurd (omega (arith, none, more, counts.lefts))
some_ended (Some number) old new before after ends counts over = refl
