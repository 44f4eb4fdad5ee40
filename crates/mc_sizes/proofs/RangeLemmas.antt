-- What follows of the numbers that a store may be set up by.
use Rattle.std.proofs.Common.{◌*◌, ◌/◌, ◌<◌, ◌==◌, ◌||◌, ◌≡◌, ◌≤◌, arith, Bool, false, refl, subst, sym, true, IsTrue, ℕ}
use Rattle.std.proofs.lemmas.Bool.{eqb-true}
use Rattle.mc_sizes.specs.Ranges.{IsShelfCount}

-- What holds of each number of shelves holds of this one. It isn't public: it fits each goal, so each search would try it.
module _ (P : ℕ → Type 0) (n : ℕ) where
  one : (k : ℕ) → P k → IsTrue (n == k) → P n
  one k here is = subst P (sym (eqb-true n k is)) here

  or : (front : Bool) (k : ℕ) → (IsTrue front → P n) → P k → IsTrue (front || n == k) → P n
  or true k before here is = before refl
  or false k before here is = one k here is

  of_each : P 1 → P 2 → P 4 → P 8 → P 16 → P 32 → P 64 → P 128 → P 256 → IsShelfCount n → P n
  of_each p1 p2 p4 p8 p16 p32 p64 p128 p256 =
      or _ 256 (or _ 128 (or _ 64 (or _ 32 (or _ 16 (or _ 8 (or _ 4 (or _ 2 (one 1 p1) p2) p4) p8) p16) p32) p64) p128) p256

pub some_shelf : (n : ℕ) → IsShelfCount n → 0 < n
some_shelf n =
    of_each (λ k. 0 < k) n (omega arith) (omega arith) (omega arith) (omega arith) (omega arith) (omega arith) (omega arith) (omega arith) (omega arith)

-- so that keys of one number are on one shelf
pub divides_numbers : (n : ℕ) → IsShelfCount n → 4096 / n * n ≡ 4096
divides_numbers n = of_each (λ k. 4096 / k * k ≡ 4096) n refl refl refl refl refl refl refl refl refl

pub few_shelves : (n : ℕ) → IsShelfCount n → (1 ≤ n) × (n ≤ 256)
few_shelves n =
    of_each (λ k. (1 ≤ k) × (k ≤ 256)) n (omega arith, omega arith) (omega arith, omega arith) (omega arith, omega arith)
    (omega arith, omega arith) (omega arith, omega arith) (omega arith, omega arith) (omega arith, omega arith) (omega arith, omega arith)
    (omega arith, omega arith)
