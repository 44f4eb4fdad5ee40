-- What becomes of the books when one guest wakes, sleeps or goes.
use Rattle.std.proofs.Common.{◌≡◌, inl, inr, ℕ, ◌<◌, ◌≤◌, ◌-◌, Bool, true, false, length, Option, Some, None, refl, sym, ap, ◌∙◌, subst, arith, IsTrue, IsFalse}
use Rattle.std.proofs.lemmas.Bool.{cases_lt}
use Rattle.std.proofs.lemmas.List.{length-take-le}
use Rattle.std.proofs.lemmas.List.Edits.{length-swap}
use Rattle.mc_guests.specs.Budgets.{AreSums}
use Rattle.mc_guests.specs.Guests.{has_ended, is_to_sleep, is_stray}
use Rattle.mc_guests.specs.Books.{RowState, BooksState, HasNumber, SleepsAt, Wakes, woken, put_behind, LetsGo}
use Rattle.mc_guests.specs.Books.{is_over, is_asleep, is_to_queue, LinesUp, IsFateOf, Settles, swapped, cut}
use Rattle.mc_guests.proofs.BudgetLemmas.{counts_swapped}
use Rattle.mc_guests.specs.declared.guests.NextState.{NextState}
use Rattle.mc_guests.specs.declared.guests.WorkEnd.{WorkEnd}

-- the guest at the place that was told for a number wakes, if it sleeps
pub wakes_told : (number place : ℕ) (told : Option ℕ) (old new : BooksState) → told ≡ Some place
    → HasNumber old.row place number → place < length old.row.guests
    → ((at : ℕ) → HasNumber old.row at number → told ≡ Some at)
    → (SleepsAt place old → new ≡ woken place old) → (place < old.awake → new ≡ old) → Wakes number old new
wakes_told number place told old new is has within all asleep awake = elim (cases_lt place old.awake) [
  | inl before ↦ inr (record {
    awake = λ at stands. (let e : place ≡ at = cc (is, all at stands) in subst (λ (n : ℕ). n < old.awake) e before);
    books = awake before;
  })
  | inr behind ↦
      (let sleeps : SleepsAt place old = record { stands = within; behind = behind } in
      inl (record { at = place; has_it = has; sleeps = sleeps; books = asleep sleeps }))
]

-- no place was told for a number
pub wakes_nobody : (number : ℕ) (told : Option ℕ) (old new : BooksState) → told ≡ None
    → ((at : ℕ) → HasNumber old.row at number → told ≡ Some at) → new ≡ old → Wakes number old new
wakes_nobody number told old new is all same = inr (record {
  awake = λ at stands. (let e : told ≡ Some at = all at stands in absurd (cc));
  books = same;
})

no_true : {A : Type 0} (b : Bool) → b ≡ false → b ≡ true → A
no_true b miss hit = absurd (cc)

-- the guest at a place is settled as is its fate
module _ (at : ℕ) (fate : NextState) (old new : BooksState) (before after : WorkEnd) (is : IsFateOf at old.row fate before after) where
  -- one that has ended goes
  pub settles_over : is_over fate ≡ true → LetsGo at old new → Settles at old new before after
  settles_over over goes = record {
    guest = is.guest;
    stands = is.stands;
    goes = λ _. goes;
    lines_up = λ on _. no_true (has_ended is.guest.guest.last) on (sym is.over ∙ over);
    sleeps = λ on _ _. no_true (has_ended is.guest.guest.last) on (sym is.over ∙ over);
    stays = λ on _. no_true (has_ended is.guest.guest.last) on (sym is.over ∙ over);
    counts = is.counts;
  }

  module _ (on : is_over fate ≡ false) where
    ended_not : {A : Type 0} → IsTrue (has_ended is.guest.guest.last) → A
    ended_not ended = no_true (has_ended is.guest.guest.last) (sym is.over ∙ on) ended

    -- one that waits and is left out of the queue is put into it
    pub settles_queued : is_to_queue fate ≡ true → is_asleep fate ≡ true → LinesUp at old new → Settles at old new before after
    settles_queued queue asleep lines = record {
      guest = is.guest;
      stands = is.stands;
      goes = λ ended. ended_not ended;
      lines_up = λ _ _. lines;
      sleeps = λ _ out _. no_true (is_stray is.guest) out (sym (is.queue on) ∙ queue);
      stays = λ _ awake. no_true (is_to_sleep is.guest) awake (sym (is.asleep on) ∙ asleep);
      counts = is.counts;
    }

    module _ (out : is_to_queue fate ≡ false) where
      -- one that is to sleep falls asleep
      pub settles_asleep : is_asleep fate ≡ true → new ≡ put_behind at old → Settles at old new before after
      settles_asleep asleep behind = record {
        guest = is.guest;
        stands = is.stands;
        goes = λ ended. ended_not ended;
        lines_up = λ _ stray. no_true (is_stray is.guest) (sym (is.queue on) ∙ out) stray;
        sleeps = λ _ _ _. behind;
        stays = λ _ awake. no_true (is_to_sleep is.guest) awake (sym (is.asleep on) ∙ asleep);
        counts = is.counts;
      }

      -- one that is not stays awake
      pub settles_awake : is_asleep fate ≡ false → new ≡ old → Settles at old new before after
      settles_awake awake same = record {
        guest = is.guest;
        stands = is.stands;
        goes = λ ended. ended_not ended;
        lines_up = λ _ stray. no_true (is_stray is.guest) (sym (is.queue on) ∙ out) stray;
        sleeps = λ _ _ asleep. no_true (is_to_sleep is.guest) (sym (is.asleep on) ∙ awake) asleep;
        stays = λ _ _. same;
        counts = is.counts;
      }

-- one that lines up falls asleep
lined_awake : (at : ℕ) (old new : BooksState) → LinesUp at old new → new.awake ≡ old.awake - 1
lined_awake at old new (inl queued) = ap (λ (b : BooksState). b.awake) queued.2
lined_awake at old new (inr stray) = ap (λ (b : BooksState). b.awake) stray

-- those before a place stay awake when the one at it is settled
pub awake_before : (at : ℕ) (old new : BooksState) (before after : WorkEnd) → at < old.awake → Settles at old new before after → at ≤ new.awake
awake_before at old new before after within settles =
    awake_by (has_ended settles.guest.guest.last) settles.goes settles.lines_up settles.sleeps settles.stays
  where
    one_less : new.awake ≡ old.awake - 1 → at ≤ new.awake
    one_less e = omega arith

    awake_on : (sleeps : Bool) → (IsTrue sleeps → new ≡ put_behind at old) → (IsFalse sleeps → new ≡ old) → at ≤ new.awake
    awake_on true behind same = one_less (ap (λ (b : BooksState). b.awake) (behind refl))
    awake_on false behind same = (let e : new.awake ≡ old.awake = ap (λ (b : BooksState). b.awake) (same refl) in omega arith)

    awake_out : (stray : Bool) → (IsTrue stray → LinesUp at old new) → (IsFalse stray → IsTrue (is_to_sleep settles.guest) → new ≡ put_behind at old)
        → (IsFalse (is_to_sleep settles.guest) → new ≡ old) → at ≤ new.awake
    awake_out true lines sleeps stays = one_less (lined_awake at old new (lines refl))
    awake_out false lines sleeps stays = awake_on (is_to_sleep settles.guest) (sleeps refl) stays

    awake_by : (ended : Bool) → (IsTrue ended → LetsGo at old new) → (IsFalse ended → IsTrue (is_stray settles.guest) → LinesUp at old new)
        → (IsFalse ended → IsFalse (is_stray settles.guest) → IsTrue (is_to_sleep settles.guest) → new ≡ put_behind at old)
        → (IsFalse ended → IsFalse (is_to_sleep settles.guest) → new ≡ old) → at ≤ new.awake
    awake_by true goes lines sleeps stays = one_less (ap (λ (b : BooksState). b.awake) (goes refl).books)
    awake_by false goes lines sleeps stays = awake_out (is_stray settles.guest) (lines refl) (sleeps refl) (stays refl)

pub long_swapped : (one other : ℕ) (row later : RowState) → later ≡ swapped one other row → length later.guests ≡ length row.guests
long_swapped one other row later is = ap (λ (r : RowState). length r.guests) is ∙ length-swap row.guests one other

-- guests are counted as before where two change places
pub counts_row_swapped : (one other held waiting large left : ℕ) (row later : RowState) → later ≡ swapped one other row → one < length row.guests → other < length row.guests
    → AreSums held waiting large left row.guests → AreSums held waiting large left later.guests
counts_row_swapped one other held waiting large left row later is first second counts =
    subst (λ (r : RowState). AreSums held waiting large left r.guests) (sym is) (counts_swapped row.guests one other held waiting large left first second counts)

-- The guest at a place changes places with the last that is awake, that one with the last of all, and the last goes.
module _ (at awake end count : ℕ) (row second third fourth : RowState) (within : at < awake) (all : awake ≤ length row.guests)
    (swaps : second ≡ swapped at (awake - 1) row) (at_end : end ≡ length second.guests) (is_last : count ≡ end - 1)
    (swaps_end : third ≡ swapped (awake - 1) count second) where
  all_long : length third.guests ≡ length row.guests
  all_long = long_swapped (awake - 1) count second third swaps_end ∙ long_swapped at (awake - 1) row second swaps

  pub some_stand : 0 < length third.guests
  some_stand = let e = all_long in omega arith

  pub counts_moved : (held waiting large left : ℕ) → AreSums held waiting large left row.guests → AreSums held waiting large left third.guests
  counts_moved held waiting large left counts =
      let long : length second.guests ≡ length row.guests = long_swapped at (awake - 1) row second swaps in
      counts_row_swapped (awake - 1) count held waiting large left second third swaps_end (omega (arith, within, all, long)) (omega (arith, within, all, long, at_end, is_last))
      (counts_row_swapped at (awake - 1) held waiting large left row second swaps (omega (arith, within, all)) (omega (arith, within, all)) counts)

  module _ (cuts : fourth ≡ cut (length third.guests - 1) third) where
    pub awake_stand : awake - 1 ≤ length fourth.guests
    awake_stand =
        let e = all_long in
        let c : length fourth.guests ≡ length third.guests - 1 = ap (λ (r : RowState). length r.guests) cuts ∙ length-take-le (length third.guests - 1) third.guests (omega arith) in
        omega arith

    pub row_gone : cut (length row.guests - 1) (swapped (awake - 1) (length row.guests - 1) (swapped at (awake - 1) row)) ≡ fourth
    row_gone =
        let last : length row.guests - 1 ≡ count = (let e = long_swapped at (awake - 1) row second swaps in omega arith) in
        let gone : length row.guests - 1 ≡ length third.guests - 1 = (let e = all_long in omega arith) in
        let a : swapped (awake - 1) (length row.guests - 1) (swapped at (awake - 1) row) ≡ third =
        ap (λ (n : ℕ). swapped (awake - 1) n (swapped at (awake - 1) row)) last ∙ ap (swapped (awake - 1) count) (sym swaps) ∙ sym swaps_end in
        ap (λ (n : ℕ). cut n (swapped (awake - 1) (length row.guests - 1) (swapped at (awake - 1) row))) gone ∙ ap (cut (length third.guests - 1)) a ∙ sym cuts
