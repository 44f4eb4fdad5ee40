-- The table of the chunk sizes, and which of them holds a charge.
use Rattle.std.proofs.Common.{◌≡◌, ℕ, ◌+◌, ◌-◌, ◌/◌, ◌<◌, ◌≤◌, Bool, true, false, leb, ltb, eqb, List, [], ◌∷◌, length, get_or, Some, None, refl, ap, subst, ◌∙◌, arith}
use Rattle.std.proofs.lemmas.Grind.{get_or_default_zero}
use Rattle.std.proofs.lemmas.Bool.{eqb-true, leb-true, le-leb, lt-leb, ltb-true, ltb-false}
use Rattle.std.proofs.lemmas.List.Folds.{list_all_at}
use Rattle.std.proofs.lemmas.List.FromFn.{get_or-range_with_len}
use Rattle.std.proofs.lemmas.List.Sums.{position_or_len_is}
use Rattle.std.proofs.lemmas.List.Sorted.{IsNonDecreasingBy-from_all_adjacent, IsPartitionedBy-ltb}
use Rattle.std.specs.Prelude.{max}
use Rattle.std.specs.List.{list_all, range_with_len}
use Rattle.std.specs.List.Sorted.{IsNonDecreasingBy, IsPartitionPoint, IsPartitionedBy}
use Rattle.mc_sizes.specs.Classes.{IsClass, chunk_sizes, size_of, chunks_a_page, class_holding, class_of, PartsAt}

-- the table that the code keeps
abbrev pub table : List ℕ
table =
    96 ∷ 120 ∷ 152 ∷ 192 ∷ 240 ∷ 304 ∷ 384 ∷ 480 ∷ 600 ∷ 752 ∷ 944 ∷ 1184 ∷ 1480 ∷ 1856 ∷ 2320 ∷ 2904 ∷ 3632 ∷ 4544 ∷ 5680 ∷ 7104 ∷
    8880 ∷ 11104 ∷ 13880 ∷ 17352 ∷ 21696 ∷ 27120 ∷ 33904 ∷ 42384 ∷ 52984 ∷ 66232 ∷ 82792 ∷ 103496 ∷ 129376 ∷ 161720 ∷ 202152 ∷ 252696 ∷ 315872 ∷ 394840 ∷ 493552 ∷ 1048576 ∷ []

-- it is what the rule gives
pub chunk_sizes-is : chunk_sizes ≡ table
unfolding chunk_sizes
chunk_sizes-is = refl

pub ruleset sizes = (chunk_sizes-is)

-- there are 40
pub length-chunk_sizes : length chunk_sizes ≡ 40
unfolding chunk_sizes
length-chunk_sizes = refl

-- the last is a page
pub size_of-last : get_or chunk_sizes 39 0 ≡ 1048576
unfolding chunk_sizes
size_of-last = refl

-- a test that each number of a list passes holds of the number at an index
test_at : (p : ℕ → Bool) (xs : List ℕ) (i : ℕ) → list_all p xs ≡ true → i < length xs → p (get_or xs i 0) ≡ true
test_at p xs i all below =
    elim (p (get_or xs i 0)) as (λ b. p (get_or xs i 0) ≡ b → b ≡ true) [
      | true ↦ λ e. refl
      | false ↦ λ e. let no : list_all p xs ≡ false = list_all_at p xs i 0 below e in cc
    ] refl

-- each size is between 96 bytes and a page
sizes_least : list_all (λ size. leb 96 size) chunk_sizes ≡ true
unfolding chunk_sizes
sizes_least = refl

sizes_most : list_all (λ size. leb size 1048576) chunk_sizes ≡ true
unfolding chunk_sizes
sizes_most = refl

-- a page has between 1 and 10922 chunks of each size
counts_least : list_all (λ size. leb 1 (1048576 / size)) chunk_sizes ≡ true
unfolding chunk_sizes
counts_least = refl

counts_most : list_all (λ size. leb (1048576 / size) 10922) chunk_sizes ≡ true
unfolding chunk_sizes
counts_most = refl

-- each size is at most the next
sizes_rise : list_all (λ k. leb (get_or chunk_sizes k 0) (get_or chunk_sizes (k + 1) 0)) (range_with_len 0 39) ≡ true
unfolding chunk_sizes
sizes_rise = refl

-- a class's place in the table
at_class : (class : ℕ) → IsClass class → class - 1 < length chunk_sizes
at_class class is = rw length-chunk_sizes (omega arith)

pub size_of-least : (class : ℕ) → IsClass class → 96 ≤ size_of class
size_of-least class is = leb-true _ _ (test_at (λ size. leb 96 size) chunk_sizes (class - 1) sizes_least (at_class class is))

pub size_of-most : (class : ℕ) → IsClass class → size_of class ≤ 1048576
size_of-most class is = leb-true _ _ (test_at (λ size. leb size 1048576) chunk_sizes (class - 1) sizes_most (at_class class is))

pub chunks_a_page-least : (class : ℕ) → IsClass class → 1 ≤ chunks_a_page class
chunks_a_page-least class is = leb-true _ _ (test_at (λ size. leb 1 (1048576 / size)) chunk_sizes (class - 1) counts_least (at_class class is))

pub chunks_a_page-most : (class : ℕ) → IsClass class → chunks_a_page class ≤ 10922
chunks_a_page-most class is = leb-true _ _ (test_at (λ size. leb (1048576 / size) 10922) chunk_sizes (class - 1) counts_most (at_class class is))

-- a size is at most the next
next_larger : (k : ℕ) → k < 39 → get_or chunk_sizes k 0 ≤ get_or chunk_sizes (k + 1) 0
next_larger k below =
    let test : ℕ → Bool = λ j. leb (get_or chunk_sizes j 0) (get_or chunk_sizes (j + 1) 0) in
    let passes : test (get_or (range_with_len 0 39) k 0) ≡ true = test_at test (range_with_len 0 39) k sizes_rise below in
    let place : get_or (range_with_len 0 39) k 0 ≡ k = get_or-range_with_len 0 39 k 0 below ∙ omega arith in
    leb-true _ _ (subst (λ (j : ℕ). test j ≡ true) place passes)

-- the sizes rise
sizes_sorted : IsNonDecreasingBy (λ size. size) chunk_sizes
sizes_sorted = IsNonDecreasingBy-from_all_adjacent (λ size. size) chunk_sizes
    (λ k d below.
    let n : k + 1 < 40 = rw length-chunk_sizes at below in
    rw (get_or_default_zero chunk_sizes k d (rw length-chunk_sizes (omega arith)), get_or_default_zero chunk_sizes (k + 1) d below) (next_larger k (omega arith)))

-- so a charge parts them: those below it stand before those that hold it
pub sizes_part : (charge : ℕ) → IsPartitionedBy (λ size. ltb size charge) chunk_sizes
sizes_part charge = IsPartitionedBy-ltb (λ size. size) chunk_sizes charge sizes_sorted

-- where the binary search stops
pub PartsAt-from : (charge smaller : ℕ) → smaller ≤ length chunk_sizes
    → IsPartitionPoint (λ size. ltb size charge ≡ true) (λ size. ltb size charge ≡ false) chunk_sizes smaller → PartsAt charge smaller
PartsAt-from charge smaller within parts = record {
  within = rw length-chunk_sizes at within;
  before = λ k below. ltb-true _ _ (parts.0 k 0 (omega arith) below);
  behind = λ k above below. ltb-false _ _ (parts.1 k 0 above (rw length-chunk_sizes below));
}

-- the class that holds the charge is the one after the smaller ones
pub class_holding-is : (charge smaller : ℕ) → PartsAt charge smaller → class_holding charge ≡ smaller + 1
class_holding-is charge smaller parts =
    ap (λ (n : ℕ). n + 1)
    (position_or_len_is (λ size. leb charge size) chunk_sizes smaller 0 (rw length-chunk_sizes parts.within)
    (λ k below. lt-leb _ _ (parts.before k below))
    (λ below. le-leb _ _ (parts.behind smaller (omega arith) (rw length-chunk_sizes at below))))

-- a charge that a class holds is at most a page
pub charge_most : (charge smaller : ℕ) → PartsAt charge smaller → smaller < 40 → charge ≤ 1048576
charge_most charge smaller parts below =
    let holds : charge ≤ get_or chunk_sizes smaller 0 = parts.behind smaller (omega arith) below in
    let most : get_or chunk_sizes smaller 0 ≤ 1048576 = leb-true _ _ (test_at (λ size. leb size 1048576) chunk_sizes smaller sizes_most (rw length-chunk_sizes below)) in
    omega arith

-- one that none holds is above
pub charge_above : (charge smaller : ℕ) → PartsAt charge smaller → 40 ≤ smaller → 1048576 < charge
charge_above charge smaller parts all = subst (λ (n : ℕ). n < charge) size_of-last (parts.before 39 (omega arith))

-- the class of a charge, where the sizes below it are not all
pub class_of-some : (charge smaller : ℕ) → PartsAt charge smaller → smaller < 40 → class_of charge ≡ Some (smaller + 1)
class_of-some charge smaller parts below =
    let test : leb charge 1048576 ≡ true = le-leb _ _ (charge_most charge smaller parts below) in
    rw test (ap Some (class_holding-is charge smaller parts))

-- and where they are
pub class_of-none : (charge smaller : ℕ) → PartsAt charge smaller → 40 ≤ smaller → class_of charge ≡ None
class_of-none charge smaller parts all =
    let test : leb charge 1048576 ≡ false = lt-leb _ _ (charge_above charge smaller parts all) in
    rw test refl

-- each size is held by its own class, and by no smaller one
sizes_differ : list_all (λ k. eqb (class_holding (get_or chunk_sizes k 0)) (k + 1)) (range_with_len 0 40) ≡ true
unfolding chunk_sizes
sizes_differ = refl

pub class_holding-size_of : (class : ℕ) → IsClass class → class_holding (size_of class) ≡ class
class_holding-size_of class is =
    let test : ℕ → Bool = λ k. eqb (class_holding (get_or chunk_sizes k 0)) (k + 1) in
    let passes : test (get_or (range_with_len 0 40) (class - 1) 0) ≡ true = test_at test (range_with_len 0 40) (class - 1) sizes_differ (omega arith) in
    let place : get_or (range_with_len 0 40) (class - 1) 0 ≡ class - 1 = get_or-range_with_len 0 40 (class - 1) 0 (omega arith) ∙ omega arith in
    eqb-true _ _ (subst (λ (k : ℕ). test k ≡ true) place passes) ∙ omega arith

-- 32768 bytes hold at most one chunk of a class from 27 on
few_fit : list_all (λ k. eqb (max (32768 / get_or chunk_sizes k 0) 1) 1) (range_with_len 26 14) ≡ true
unfolding chunk_sizes
few_fit = refl

pub one_fits : (class : ℕ) → IsClass class → 27 ≤ class → max (32768 / size_of class) 1 ≡ 1
one_fits class is lone =
    let test : ℕ → Bool = λ k. eqb (max (32768 / get_or chunk_sizes k 0) 1) 1 in
    let passes : test (get_or (range_with_len 26 14) (class - 27) 0) ≡ true = test_at test (range_with_len 26 14) (class - 27) few_fit (omega arith) in
    let place : get_or (range_with_len 26 14) (class - 27) 0 ≡ class - 1 = get_or-range_with_len 26 14 (class - 27) 0 (omega arith) ∙ omega arith in
    eqb-true _ _ (subst (λ (k : ℕ). test k ≡ true) place passes)
