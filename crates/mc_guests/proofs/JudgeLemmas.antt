-- What becomes of a list where one of it is changed, and which guest is the slowest.
use Rattle.std.specs.Prelude.{slice_get, slice_set}
use Rattle.std.specs.List.{sum_by}
use Rattle.std.proofs.Common.{◌≡◌, inl, inr, ℕ, zero, suc, ◌+◌, ◌<◌, ◌≤◌, true, false, List, [], ◌∷◌, length, Option, Some, None, refl, sym, ap, ◌∙◌, subst, arith, ltb-true, ltb-false}
use Rattle.std.proofs.lemmas.Bool.{cases_lt}
use Rattle.std.proofs.lemmas.List.Sums.{sum_by-cons}
use Rattle.std.proofs.lemmas.Option.{none-some, same_Some}
use Rattle.mc_guests.specs.Budgets.{one_if, is_large, AreSums}
use Rattle.mc_guests.specs.Guests.{RowGuest}
use Rattle.mc_guests.specs.Books.{RowState, changed}
use Rattle.mc_guests.specs.Judging.{undercuts, FindsSlowest, Judges, judged}
use Rattle.mc_guests.specs.declared.metered.Verdict.{Verdict}

-- a place of a row that is shown is one of the row itself
pub within_shown : (at : ℕ) (row shown : RowState) → row ≡ shown → at < length shown.guests → at < length row.guests
within_shown at row shown is within = subst (λ (r : RowState). at < length r.guests) (sym is) within

module _ {A : Type 0} (f : A → A) where
  pub length_changed : (at : ℕ) (xs : List A) → length (changed f at xs) ≡ length xs
  length_changed at [] = refl
  length_changed zero (x ∷ xs) = refl
  length_changed (suc at) (x ∷ xs) = ap (λ (n : ℕ). suc n) (length_changed at xs)

  -- one that is set to what a change makes of it is changed
  pub set_changed : (at : ℕ) (xs : List A) (x y : A) → slice_get xs at ≡ Some x → y ≡ f x → slice_set xs at y ≡ changed f at xs
  set_changed at [] x y is changes = absurd (none-some x is)
  set_changed zero (z ∷ xs) x y is changes = ap (λ (w : A). w ∷ xs) (changes ∙ ap f (sym (same_Some z x is)))
  set_changed (suc at) (z ∷ xs) x y is changes = ap (λ (l : List A). z ∷ l) (set_changed at xs x y is changes)

  -- a sum stays where what is summed stays
  pub sum_changed : (g : A → ℕ) → ((x : A) → g (f x) ≡ g x) → (at : ℕ) (xs : List A) → sum_by g (changed f at xs) ≡ sum_by g xs
  sum_changed g same at [] = refl
  sum_changed g same zero (x ∷ xs) = sum_by-cons g (f x) xs ∙ ap (λ (n : ℕ). n + sum_by g xs) (same x) ∙ sym (sum_by-cons g x xs)
  sum_changed g same (suc at) (x ∷ xs) =
      sum_by-cons g x (changed f at xs) ∙ ap (λ (n : ℕ). g x + n) (sum_changed g same at xs) ∙ sym (sum_by-cons g x xs)

-- guests are counted as before where one changes that is counted as before
pub counts_changed : (f : RowGuest → RowGuest) → ((g : RowGuest) → (f g).counted ≡ g.counted) → ((g : RowGuest) → (f g).waits ≡ g.waits) → ((g : RowGuest) → (f g).left ≡ g.left)
    → (at held waiting large left : ℕ) (guests : List RowGuest) → AreSums held waiting large left guests → AreSums held waiting large left (changed f at guests)
counts_changed f bytes waits lefts at held waiting large left guests counts = record {
  bytes = counts.bytes ∙ sym (sum_changed f (λ g. g.counted) bytes at guests);
  waits = counts.waits ∙ sym (sum_changed f (λ g. one_if g.waits) (λ g. ap one_if (waits g)) at guests);
  larges = counts.larges ∙ sym (sum_changed f (λ g. one_if (is_large g.counted g.waits)) (λ g i. one_if (is_large (bytes g i) (waits g i))) at guests);
  lefts = counts.lefts ∙ sym (sum_changed f (λ g. g.left) lefts at guests);
}

-- the guest at a place, behind those before it
module _ (rate_of : RowGuest → Option ℕ) (at : ℕ) (guests : List RowGuest) (guest : RowGuest) (stands : slice_get guests at ≡ Some guest) where
  up_to : (P : RowGuest → Type 0) → ((other : ℕ) (rival : RowGuest) → other < at → slice_get guests other ≡ Some rival → P rival) → P guest
      → (other : ℕ) (rival : RowGuest) → other < at + 1 → slice_get guests other ≡ Some rival → P rival
  up_to P before here other rival within is = elim (cases_lt other at) [
    | inl earlier ↦ before other rival earlier is
    | inr later ↦
        (let e : at ≡ other = omega (arith, later, within) in
        let same : guest ≡ rival = same_Some guest rival (sym stands ∙ ap (slice_get guests) e ∙ is) in
        subst P same here)
  ]

  -- a rate is lower than that of any before
  below : (rate : ℕ) (found : Option (ℕ × ℕ)) → FindsSlowest rate_of at found guests → undercuts rate found ≡ true
      → (other more : ℕ) (rival : RowGuest) → other < at → slice_get guests other ≡ Some rival → rate_of rival ≡ Some more → rate < more
  below rate None finds under other more rival within is slow = absurd (none-some more (sym (finds other rival within is) ∙ slow))
  below rate (Some found) finds under other more rival within is slow =
      let least : found.1 ≤ more = finds.lower other more rival within is slow in
      let less : rate < found.1 = ltb-true rate found.1 under in
      omega (arith, least, less)

  at_least : (rate : ℕ) → rate_of guest ≡ Some rate → (more : ℕ) → rate_of guest ≡ Some more → rate ≤ more
  at_least rate slow more is = let e : rate ≡ more = same_Some rate more (sym slow ∙ is) in omega (arith, e)

  -- a guest is the slowest up to its place
  pub slower_here : (rate : ℕ) (found : Option (ℕ × ℕ)) → FindsSlowest rate_of at found guests → rate_of guest ≡ Some rate → undercuts rate found ≡ true
      → FindsSlowest rate_of (at + 1) (Some (at, rate)) guests
  slower_here rate found finds slow under = record {
    guest = guest;
    stands = stands;
    slow = slow;
    lower = λ other more rival within is that.
        up_to (λ g. (n : ℕ) → rate_of g ≡ Some n → rate ≤ n)
        (λ o r w s n t. (let less = below rate found finds under o n r w s t in omega (arith, less))) (at_least rate slow) other rival within is more that;
    first = below rate found finds under;
  }

  -- a guest isn't slower than the slowest before
  pub slower_before : (rate : ℕ) (found : Option (ℕ × ℕ)) → FindsSlowest rate_of at found guests → rate_of guest ≡ Some rate → undercuts rate found ≡ false
      → FindsSlowest rate_of (at + 1) found guests
  slower_before rate None finds slow under = cc
  slower_before rate (Some found) finds slow under = record {
    guest = finds.guest;
    stands = finds.stands;
    slow = finds.slow;
    lower = λ other more rival within is that.
        up_to (λ g. (n : ℕ) → rate_of g ≡ Some n → found.1 ≤ n) (λ o r w s n t. finds.lower o n r w s t)
        (λ n t. (let e = at_least rate slow n t in let least : found.1 ≤ rate = ltb-false rate found.1 under in omega (arith, e, least))) other rival within is more that;
    first = finds.first;
  }

  -- a guest isn't sought
  pub slower_not : (found : Option (ℕ × ℕ)) → FindsSlowest rate_of at found guests → rate_of guest ≡ None → FindsSlowest rate_of (at + 1) found guests
  slower_not None finds none = λ other rival within is. up_to (λ g. rate_of g ≡ None) finds none other rival within is
  slower_not (Some found) finds none = record {
    guest = finds.guest;
    stands = finds.stands;
    slow = finds.slow;
    lower = λ other more rival within is that.
        up_to (λ g. (n : ℕ) → rate_of g ≡ Some n → found.1 ≤ n) (λ o r w s n t. finds.lower o n r w s t)
        (λ n t. absurd (none-some n (sym none ∙ t))) other rival within is more that;
    first = finds.first;
  }

-- a judgement leaves how many stand in the row
pub judges_long : (ticks : ℕ) (result : Option Verdict) (old new : RowState) → Judges ticks result old new → length new.guests ≡ length old.guests
judges_long ticks None old new judges = ap (λ (r : RowState). length r.guests) judges.1
judges_long ticks (Some result) old new judges = ap (λ (r : RowState). length r.guests) judges.judges.row ∙ length_changed (judged ticks) judges.at old.guests

-- a judgement leaves what guests are counted for
pub judges_counts : (ticks held waiting large left : ℕ) (result : Option Verdict) (old new : RowState) → Judges ticks result old new
    → AreSums held waiting large left old.guests → AreSums held waiting large left new.guests
judges_counts ticks held waiting large left None old new judges counts = subst (λ (r : RowState). AreSums held waiting large left r.guests) (sym judges.1) counts
judges_counts ticks held waiting large left (Some result) old new judges counts =
    subst (λ (r : RowState). AreSums held waiting large left r.guests) (sym judges.judges.row)
    (counts_changed (judged ticks) (λ _. refl) (λ _. refl) (λ _. refl) judges.at held waiting large left old.guests counts)
