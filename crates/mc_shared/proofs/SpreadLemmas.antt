-- The words of many numbers, each named as often as keys of its number went.
use Rattle.mc_shared.proofs.Words.{◌≡◌, ℕ, zero, suc, ◌+◌, ◌-◌, ◌≤◌, ◌<◌, cond, eqb, [], ◌++◌, replicate, refl, sym, ap, ◌∙◌, arith, dite, ℕ_discrete, total, word_of}
use Rattle.mc_shared.specs.Spread.{spread}
use Rattle.mc_shared.proofs.Sums.{total-append}
use Rattle.mc_shared.proofs.NumberSteps.{named_so, named_not}

-- words of different numbers differ
abbrev pub AreApart : ℕ → Type 0
AreApart shelves = (n k : ℕ) → n < 4096 → k < 4096 → word_of shelves n ≡ word_of shelves k → n ≡ k

module _ (shelves : ℕ) (gone : ℕ → ℕ) where
  -- the first number's words come first
  pub spread_first : (number count : ℕ) → spread shelves gone number (suc count)
      ≡ replicate (gone number) (word_of shelves number) ++ spread shelves gone (number + 1) count
  unfolding spread
  spread_first number count = refl

  pub spread_none : (number : ℕ) → spread shelves gone number zero ≡ []
  unfolding spread
  spread_none number = refl

  split : (number count word : ℕ) → total (λ x. cond (eqb word x) 1 0) (spread shelves gone number (suc count))
      ≡ total (λ x. cond (eqb word x) 1 0) (replicate (gone number) (word_of shelves number))
      + total (λ x. cond (eqb word x) 1 0) (spread shelves gone (number + 1) count)
  split number count word =
      ap (total (λ x. cond (eqb word x) 1 0)) (spread_first number count)
      ∙ total-append (λ x. cond (eqb word x) 1 0) (replicate (gone number) (word_of shelves number))
      (spread shelves gone (number + 1) count)

  empty : (number word : ℕ) → total (λ x. cond (eqb word x) 1 0) (spread shelves gone number zero) ≡ 0
  empty number word = ap (total (λ x. cond (eqb word x) 1 0)) (spread_none number)

  -- a word that is named is one of those numbers'
  pub spread_within : (number count word : ℕ) → 1 ≤ total (λ x. cond (eqb word x) 1 0) (spread shelves gone number count)
      → (n : ℕ) × (number ≤ n) × (n < number + count) × (word ≡ word_of shelves n)
  spread_within number zero word some = absurd (let none = empty number word in omega (arith, none, some))
  spread_within number (suc count) word some =
      let parts = split number count word in
      dite (ℕ_discrete word (word_of shelves number)) (λ e. (number, omega arith, omega arith, e))
      (λ ne.
      let first = named_not word (word_of shelves number) (gone number) ne in
      let rest = spread_within (number + 1) count word (omega (arith, parts, first, some)) in
      let low = rest.1 in
      let high = rest.2 in
      (rest.0, omega (arith, low), omega (arith, high), rest.3))

  module _ (apart : AreApart shelves) where
    -- the word of a number that isn't among them is not named
    spread_not : (number count n : ℕ) → n < number → number + count ≤ 4096
        → total (λ x. cond (eqb (word_of shelves n) x) 1 0) (spread shelves gone number count) ≡ 0
    spread_not number zero n low all = empty number (word_of shelves n)
    spread_not number (suc count) n low all =
        let parts = split number count (word_of shelves n) in
        let first = named_not (word_of shelves n) (word_of shelves number) (gone number)
        (λ is. let same : n ≡ number = apart n number (omega (arith, low, all)) (omega (arith, all)) is in omega (arith, same, low)) in
        let rest = spread_not (number + 1) count n (omega (arith, low)) (omega (arith, all)) in omega (arith, parts, first, rest)

    -- a number's is named as often as keys of it went
    pub spread_names : (number count n : ℕ) → number + count ≤ 4096 → number ≤ n → n < number + count
        → total (λ x. cond (eqb (word_of shelves n) x) 1 0) (spread shelves gone number count) ≡ gone n
    spread_names number zero n all low high = absurd (omega (arith, low, high))
    spread_names number (suc count) n all low high =
        let parts = split number count (word_of shelves n) in
        dite (ℕ_discrete n number)
        (λ e.
        let first : total (λ x. cond (eqb (word_of shelves n) x) 1 0) (replicate (gone number) (word_of shelves number)) ≡ gone n =
        (λ i. total (λ x. cond (eqb (word_of shelves (e i)) x) 1 0) (replicate (gone number) (word_of shelves number)))
        ∙ (named_so (word_of shelves number) (gone number) ∙ ap gone (sym e)) in
        let rest = spread_not (number + 1) count n (omega (arith, e)) (omega (arith, all)) in
        omega (arith, parts, first, rest))
        (λ ne.
        let first = named_not (word_of shelves n) (word_of shelves number) (gone number)
        (λ is. ne (apart n number (omega (arith, high, all)) (omega (arith, all)) is)) in
        let rest = spread_names (number + 1) count n (omega (arith, all)) (omega (arith, low, ne)) (omega (arith, high)) in
        omega (arith, parts, first, rest))

-- functions that are alike give the same words
pub spread_alike : (shelves : ℕ) (f g : ℕ → ℕ) (number count : ℕ) → ((n : ℕ) → number ≤ n → n < number + count → f n ≡ g n)
    → spread shelves f number count ≡ spread shelves g number count
spread_alike shelves f g number zero same = spread_none shelves f number ∙ sym (spread_none shelves g number)
spread_alike shelves f g number (suc count) same =
    let rest = spread_alike shelves f g (number + 1) count (λ n low high. same n (omega (arith, low)) (omega (arith, high))) in
    let here : f number ≡ g number = same number (omega arith) (omega arith) in
    spread_first shelves f number count ∙ (λ i. replicate (here i) (word_of shelves number) ++ rest i)
    ∙ sym (spread_first shelves g number count)

-- the words of the numbers from one on: first its own, and then the others'
pub spread_next : (shelves : ℕ) (gone : ℕ → ℕ) (number : ℕ) → number < 4096 → spread shelves gone number (4096 - number)
    ≡ replicate (gone number) (word_of shelves number) ++ spread shelves gone (number + 1) (4096 - (number + 1))
spread_next shelves gone number low =
    let more : 4096 - number ≡ suc (4096 - (number + 1)) = omega (arith, low) in
    ap (λ (k : ℕ). spread shelves gone number k) more ∙ spread_first shelves gone number (4096 - (number + 1))

pub spread_end : (shelves : ℕ) (gone : ℕ → ℕ) (number : ℕ) → 4096 ≤ number → spread shelves gone number (4096 - number) ≡ []
spread_end shelves gone number all =
    let none : 4096 - number ≡ zero = omega (arith, all) in
    ap (λ (k : ℕ). spread shelves gone number k) none ∙ spread_none shelves gone number
