-- The sum of one number more.
use Rattle.std.proofs.Common.{◌≡◌, ◌+◌, ◌%◌, ◌^◌, ◌<◌, ◌⊎◌, inl, inr, ℕ, List, [], ◌∷◌, ◌++◌, length, take, get_or, arith, subst, sym, ap, refl, ◌∙◌}
use Rattle.std.specs.List.{AllZip, sum_by}
use Rattle.std.specs.Prelude.{slice_index, slice_set}
use Rattle.std.proofs.lemmas.Bool.{cases_eq}
use Rattle.std.proofs.lemmas.List.{take_more, get_or-set_same, get_or-set_other}
use Rattle.std.proofs.lemmas.List.Sums.{sum_by_push}
use Rattle.std.proofs.lemmas.Slice.Zip.{all_zipped_more}
use Rattle.mc_metrics.specs.Sums.{IsSum}

added : (sum total number : ℕ) → sum ≡ total % 2 ^ 64 → (sum + number) % 2 ^ 64 ≡ (total + number) % 2 ^ 64
added sum total number is = omega (arith, is)

pub one_more : {C : Type 0} (Shows : C → ℕ → Type 0) (of : List C) (at : ℕ) (item : C) (sum number : ℕ) → at < length of
    → item ≡ get_or of at item → Shows item number → IsSum Shows (take at of) sum → IsSum Shows (take (at + 1) of) ((sum + number) % 2 ^ 64)
one_more Shows of at item sum number within is_item shows is = record {
  numbers = is.numbers ++ number ∷ [];
  each = subst (λ front. AllZip Shows front (is.numbers ++ number ∷ [])) (sym (take_more of at item within ∙ ap (λ x. take at of ++ x ∷ []) (sym is_item)))
      (all_zipped_more Shows (take at of) is.numbers item number is.each shows);
  total = added sum (sum_by (λ n. n) is.numbers) number is.total ∙ ap (λ total. total % 2 ^ 64) (sym (sum_by_push (λ n. n) is.numbers number));
}

pub nothing : {C : Type 0} (Shows : C → ℕ → Type 0) → IsSum Shows [] 0
nothing Shows = record { numbers = []; each = tt; total = refl }

-- what holds at each place below, and at the next one where it is set
pub set_next : (Is : ℕ → ℕ → Type 0) (sums : List ℕ) (at sum : ℕ) → at < length sums
    → ((place : ℕ) → place < at → Is place (slice_index sums place)) → Is at sum
    → (place : ℕ) → place < at + 1 → Is place (slice_index (slice_set sums at sum) place)
set_next Is sums at sum within below here place before =
    elim (cases_eq place at) [
      | (inl same) ↦ subst (λ at_place. Is at_place (slice_index (slice_set sums at sum) at_place)) (sym same)
          (subst (Is at) (sym (get_or-set_same sums at sum 0 within)) here)
      | (inr other) ↦ subst (Is place) (sym (get_or-set_other sums at place sum 0 other)) (below place (omega (arith, before, other)))
    ]
