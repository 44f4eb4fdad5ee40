-- Where the words of numbers lie.
use Rattle.mc_shared.proofs.Words.{◌≡◌, ℕ, zero, suc, ◌+◌, ◌*◌, ◌/◌, ◌%◌, ◌≤◌, ◌<◌, sym, refl, ◌∙◌, arith, div-add-mod', same_from_place, div_below, mod_below, mul-add-lt, place}
use Rattle.mc_shared.specs.Presence.{word_of, words_with}

-- a number that divides 4096 isn't 0
pub some_shelf : (shelves q : ℕ) → q * shelves ≡ 4096 → 0 < shelves
some_shelf zero q e = absurd (omega (arith, e))
some_shelf (suc shelves) q e = omega arith

module _ (shelves q : ℕ) (divides : q * shelves ≡ 4096) where
  row : (n : ℕ) → n % shelves < shelves
  row n = mod_below n shelves (some_shelf shelves q divides)

  column : (n : ℕ) → n < 4096 → n / shelves < q
  column n low = div_below n shelves q (some_shelf shelves q divides) (omega (arith, low, divides))

  places_apart : (n m : ℕ) → n < 4096 → m < 4096 → n % shelves * (q + 8) + n / shelves ≡ m % shelves * (q + 8) + m / shelves → n ≡ m
  places_apart n m low high e =
      let a = column n low in
      let b = column m high in
      let same = same_from_place (n % shelves) (n / shelves) (m % shelves) (m / shelves) (q + 8) (omega (arith, a)) (omega (arith, b)) e in
      sym (div-add-mod' n shelves) ∙ (λ i. same.1 i * shelves + same.0 i) ∙ div-add-mod' m shelves

  place_below : (n : ℕ) → n < 4096 → n % shelves * (q + 8) + n / shelves < (q + 8) * shelves
  place_below n low = let a = column n low in mul-add-lt (n % shelves) (q + 8) (n / shelves) shelves (row n) (omega (arith, a))

-- no two numbers have one word
pub words_apart : (shelves n m : ℕ) → 4096 / shelves * shelves ≡ 4096 → n < 4096 → m < 4096 → word_of shelves n ≡ word_of shelves m → n ≡ m
unfolding word_of
words_apart shelves n m divides low high e = places_apart shelves (4096 / shelves) divides n m low high (omega (arith, e))

-- each lies behind the bays
pub word_behind : (shelves n : ℕ) → place (shelves + 1) ≤ word_of shelves n
unfolding word_of
word_behind shelves n = omega arith

-- and in the table
pub word_inside : (shelves n : ℕ) → 4096 / shelves * shelves ≡ 4096 → n < 4096 → word_of shelves n < words_with shelves
unfolding word_of words_with
word_inside shelves n divides low =
    let a = place_below shelves (4096 / shelves) divides n low in
    let b = native.Mathlib.Nat.mul_comm (4096 / shelves + 8) shelves in omega (arith, a, b)

pub bays_inside : (shelves : ℕ) → place (shelves + 1) ≤ words_with shelves
unfolding words_with
bays_inside shelves = omega arith

-- a number's shelf is one of the shelves
pub number_inside : (shelves n : ℕ) → 4096 / shelves * shelves ≡ 4096 → n % shelves < shelves
number_inside shelves n divides = row shelves (4096 / shelves) divides n

-- how it is found
pub word_is : (shelves n : ℕ) → word_of shelves n ≡ (shelves + 1) * 8 + n % shelves * (4096 / shelves + 8) + n / shelves
unfolding word_of
word_is shelves n = refl

-- few shelves have as many numbers each
pub few_shelves : (shelves q : ℕ) → q * shelves ≡ 4096 → shelves ≤ 4096
few_shelves shelves zero e = absurd (omega (arith, e))
few_shelves shelves (suc q) e = omega (arith, e)

pub words_are : (shelves : ℕ) → words_with shelves ≡ (shelves + 1) * 8 + shelves * (4096 / shelves + 8)
unfolding words_with
words_are shelves = refl
