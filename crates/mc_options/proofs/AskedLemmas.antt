-- What a number is that was asked for and brought into range.
use Rattle.std.proofs.Common.{◌≡◌, ◌∙◌, sym, refl, subst, arith, ℕ, ◌≤◌, min, max, Option, Some, None}
use Rattle.mc_sizes.specs.Ranges.{IsShelfCount}
use Rattle.mc_sizes.proofs.RangeLemmas.{few_shelves}
use Rattle.mc_options.specs.Asked.{IsAskedFor, IsTimeoutFor, usual_greatest, IsGreatestFor, AsksNoShelfCount}

pub clamped : (asked : Option ℕ) (usual most n taken : ℕ)
    → asked ≡ Some n → taken ≡ max 1 (min n most) → 1 ≤ most → IsAskedFor asked usual most taken
clamped asked usual most n taken is clamps some = record {
  unasked = λ none. let no : Some n ≡ None = sym is ∙ none in cc;
  asked_for = λ m said low high. let same : n ≡ m = (let both : Some n ≡ Some m = sym is ∙ said in cc) in grind (arith, same, clamps);
  range = (grind (arith, clamps), grind (arith, clamps));
}

pub kept_in_pages : (asked : Option ℕ) (n taken : ℕ)
    → asked ≡ Some n → taken ≡ max usual_greatest (min n 8388608) → IsGreatestFor asked taken
kept_in_pages asked n taken is clamps = record {
  unasked = λ none. let no : Some n ≡ None = sym is ∙ none in cc;
  asked_for = λ m said fits.
      let same : n ≡ m = (let both : Some n ≡ Some m = sym is ∙ said in cc) in
      let low = fits.0 in
      let high = fits.1 in
      grind (arith, same, clamps);
  range = (grind (arith, clamps), grind (arith, clamps));
}

pub bounded : (asked : Option ℕ) (most n taken : ℕ)
    → asked ≡ Some n → taken ≡ min n most → IsTimeoutFor asked most taken
bounded asked most n taken is bounds = record {
  unasked = λ none. let no : Some n ≡ None = sym is ∙ none in cc;
  asked_for = λ m said low. let same : n ≡ m = (let both : Some n ≡ Some m = sym is ∙ said in cc) in grind (arith, same, bounds);
  range = grind (arith, bounds);
}

-- where what is taken is no number of shelves, none was asked for, since the usual one is
pub no_shelf_count : (asked : Option ℕ) (taken : ℕ) → IsAskedFor asked 64 256 taken → ¬ IsShelfCount taken → AsksNoShelfCount asked
no_shelf_count None taken is none = absurd (none (subst IsShelfCount (sym (is.unasked refl)) refl))
no_shelf_count (Some n) taken is none =
    (n, refl, λ fits. let few = few_shelves n fits in none (subst IsShelfCount (sym (is.asked_for n refl few.0 few.1)) fits))
