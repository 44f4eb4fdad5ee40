-- Each number in a row is found at its place.
use Rattle.std.specs.Prelude.{slice_get, swap, IsSome, is_some}
use Rattle.std.proofs.Common.{◌≡◌, ◌≢◌, ◌⊎◌, inl, inr, ℕ, zero, suc, ◌<◌, Bool, true, false, cond, eqb, List}
use Rattle.std.proofs.Common.{[], ◌∷◌, ◌++◌, length, take, drop, get_or, Option, Some, None, refl, sym, ap, ◌∙◌, subst, arith}
use Rattle.std.proofs.Math.ListN.{set}
use Rattle.std.proofs.lemmas.Bool.Decides.{eqb_tells}
use Rattle.std.proofs.lemmas.List.{length-append, set-get_or, get_or_append_left}
use Rattle.std.proofs.Math.Seq.{get_or-append_seam, take-append_seam}
use Rattle.std.proofs.lemmas.List.Edits.{Swapped, swapped_from_swap, length-swap}
use Rattle.std.proofs.lemmas.Option.{slice_get_within, slice_get-get_or, get_or_from_slice_get}
use Rattle.mc_guests.specs.Books.{RowState, TellsPlaces, swapped}

-- one that changes places with itself stays
pub swap_same : {A : Type 0} (xs : List A) (at : ℕ) → swap xs at at ≡ xs
swap_same [] at = refl
swap_same (x ∷ xs) at =
    ap (λ l. set l at (get_or (x ∷ xs) at x)) (set-get_or (x ∷ xs) at x) ∙ set-get_or (x ∷ xs) at x

pub swapped_same : (one other : ℕ) (row : RowState) → one ≡ other → row ≡ swapped one other row
swapped_same one other row e = subst (λ (n : ℕ). row ≡ swapped one n row) e (sym (
    ap (λ g. record { guests = g; numbers = swap row.numbers one one }) (swap_same row.guests one)
    ∙ ap (λ (n : List ℕ). record { guests = row.guests; numbers = n }) (swap_same row.numbers one)
    ))

-- what was lent of a vector, as it is handed back
pub lent_back : {A : Type 0} (xs ys : List A) (n : ℕ) → n ≡ length xs → length ys ≡ length xs → take n (ys ++ drop (length ys) xs) ≡ ys
lent_back xs ys n long same = ap (λ (k : ℕ). take k (ys ++ drop (length ys) xs)) (long ∙ sym same) ∙ take-append_seam ys (drop (length ys) xs)

stands : (xs : List ℕ) (at number : ℕ) → at < length xs → get_or xs at 0 ≡ number → slice_get xs at ≡ Some number
stands xs at number within is = slice_get-get_or xs at 0 within ∙ ap (λ (n : ℕ). Some n) is

some_same : (a b : ℕ) → Some a ≡ Some b → a ≡ b
some_same a b e = cc

-- a look-up behind a change at one number
here : (number q : ℕ) (g f : Option ℕ) (v : Option ℕ) → g ≡ cond (eqb number q) v f → eqb number q ≡ true → g ≡ v
here number q g f v is t = is ∙ ap (λ (b : Bool). cond b v f) t

there : (number q : ℕ) (g f : Option ℕ) (v : Option ℕ) → g ≡ cond (eqb number q) v f → eqb number q ≡ false → g ≡ f
there number q g f v is t = is ∙ ap (λ (b : Bool). cond b v f) t

pub tells_same : (f g : ℕ → Option ℕ) (numbers : List ℕ) → ((q : ℕ) → g q ≡ f q) → TellsPlaces f numbers → TellsPlaces g numbers
tells_same f g numbers same tells = record {
  told = λ number at is. tells.told number at (sym (same number) ∙ is);
  all = λ number at is. same number ∙ tells.all number at is;
}

is_none : (o : Option ℕ) (has : Bool) → has ≡ is_some o → has ≡ false → o ≡ None
is_none None has is miss = refl
is_none (Some v) has is miss = absurd (cc)

is_there : (o : Option ℕ) (v : ℕ) → o ≡ Some v → IsSome o
is_there o v is = ap (λ (x : Option ℕ). is_some x) is

-- where one number has another place, another one still has its own
pub still_there : (f g : ℕ → Option ℕ) (numbers : List ℕ) (first second place other : ℕ)
    → ((q : ℕ) → g q ≡ cond (eqb first q) (Some place) (f q)) → TellsPlaces f numbers → slice_get numbers other ≡ Some second → IsSome (g second)
still_there f g numbers first second place other puts tells is = elim (eqb_tells first second) [
  | inl hit ↦ is_there (g second) place (here first second (g second) (f second) (Some place) (puts second) hit.0)
  | inr miss ↦ is_there (g second) other (there first second (g second) (f second) (Some place) (puts second) miss.0 ∙ tells.all second other is)
]

-- what stands behind a front
last_stands : (front : List ℕ) (number : ℕ) → slice_get (front ++ number ∷ []) (length front) ≡ Some number
last_stands front number = stands (front ++ number ∷ []) (length front) number
    (omega (arith, length-append front (number ∷ []))) (get_or-append_seam front number [] 0)

front_stands : (front : List ℕ) (number at q : ℕ) → slice_get front at ≡ Some q → slice_get (front ++ number ∷ []) at ≡ Some q
front_stands front number at q is =
    let within = slice_get_within front at q is in
    stands (front ++ number ∷ []) at q (omega (arith, length-append front (number ∷ [])))
    (get_or_append_left front (number ∷ []) 0 at within ∙ get_or_from_slice_get front at q 0 is)

-- what stands in a row with one behind it stands in front, or is the last one
stands_where : (front : List ℕ) (number at q : ℕ) → slice_get (front ++ number ∷ []) at ≡ Some q
    → (slice_get front at ≡ Some q) ⊎ ((at ≡ length front) × (q ≡ number))
stands_where [] number zero q is = inr (refl, sym (some_same number q is))
stands_where [] number (suc at) q is = absurd cc
stands_where (x ∷ front) number zero q is = inl is
stands_where (x ∷ front) number (suc at) q is = elim (stands_where front number at q is) [
  | inl there ↦ inl there
  | inr last ↦ inr (ap (λ (n : ℕ). suc n) last.0, last.1)
]

-- a number more, that stood nowhere
module _ (f g : ℕ → Option ℕ) (numbers : List ℕ) (number : ℕ) (fresh : f number ≡ None)
    (puts : (q : ℕ) → g q ≡ cond (eqb number q) (Some (length numbers)) (f q)) (tells : TellsPlaces f numbers) where
  told_joined : (q at : ℕ) → g q ≡ Some at → slice_get (numbers ++ number ∷ []) at ≡ Some q
  told_joined q at is = elim (eqb_tells number q) [
    | inl hit ↦
        let e : length numbers ≡ at = some_same (length numbers) at (sym (here number q (g q) (f q) (Some (length numbers)) (puts q) hit.0) ∙ is) in
        subst (λ (n : ℕ). slice_get (numbers ++ number ∷ []) n ≡ Some q) e
        (last_stands numbers number ∙ ap (λ (n : ℕ). Some n) hit.1)
    | inr miss ↦
        front_stands numbers number at q (tells.told q at (sym (there number q (g q) (f q) (Some (length numbers)) (puts q) miss.0) ∙ is))
  ]

  all_joined : (q at : ℕ) → slice_get (numbers ++ number ∷ []) at ≡ Some q → g q ≡ Some at
  all_joined q at is = elim (stands_where numbers number at q is) [
    | inl front ↦
        let found : f q ≡ Some at = tells.all q at front in
        elim (eqb_tells number q) [
          | inl hit ↦ (let same : f number ≡ f q = ap f hit.1 in absurd (cc))
          | inr miss ↦ there number q (g q) (f q) (Some (length numbers)) (puts q) miss.0 ∙ found
        ]
    | inr last ↦ elim (eqb_tells number q) [
      | inl hit ↦ here number q (g q) (f q) (Some (length numbers)) (puts q) hit.0 ∙ ap (λ (n : ℕ). Some n) (sym last.0)
      | inr miss ↦ absurd (miss.1 (sym last.1))
    ]
  ]

  pub tells_joined : TellsPlaces g (numbers ++ number ∷ [])
  tells_joined = record { told = told_joined; all = all_joined }

pub tells_pushed : (f g : ℕ → Option ℕ) (numbers later : List ℕ) (number place : ℕ) (has noted pushed : Bool) → has ≡ is_some (f number) → has ≡ false → place ≡ length numbers
    → (noted ≡ true → (q : ℕ) → g q ≡ cond (eqb number q) (Some place) (f q)) → noted ≡ true → later ≡ cond pushed (numbers ++ number ∷ []) numbers → pushed ≡ true
    → TellsPlaces f numbers → TellsPlaces g later
tells_pushed f g numbers later number place has noted pushed is miss at puts hit grows done tells =
    let came : later ≡ numbers ++ number ∷ [] = grows ∙ ap (λ (b : Bool). cond b (numbers ++ number ∷ []) numbers) done in
    subst (TellsPlaces g) (sym came) (tells_joined f g numbers number (is_none (f number) has is miss)
    (λ q. subst (λ (n : ℕ). g q ≡ cond (eqb number q) (Some n) (f q)) at (puts hit q)) tells)

-- the last number is gone
module _ (f g : ℕ → Option ℕ) (front : List ℕ) (number : ℕ)
    (takes : (q : ℕ) → g q ≡ cond (eqb number q) None (f q)) (tells : TellsPlaces f (front ++ number ∷ [])) where
  told_cut : (q at : ℕ) → g q ≡ Some at → slice_get front at ≡ Some q
  told_cut q at is = elim (eqb_tells number q) [
    | inl hit ↦ (let none : g q ≡ None = here number q (g q) (f q) None (takes q) hit.0 in absurd (cc))
    | inr miss ↦
        elim (stands_where front number at q (tells.told q at (sym (there number q (g q) (f q) None (takes q) miss.0) ∙ is))) [
          | inl front ↦ front
          | inr last ↦ absurd (miss.1 (sym last.1))
        ]
  ]

  all_cut : (q at : ℕ) → slice_get front at ≡ Some q → g q ≡ Some at
  all_cut q at is =
      let found : f q ≡ Some at = tells.all q at (front_stands front number at q is) in
      elim (eqb_tells number q) [
        | inl hit ↦
            (let last : f number ≡ Some (length front) = tells.all number (length front) (last_stands front number) in
            let same : f number ≡ f q = ap f hit.1 in
            let e : at ≡ length front = some_same at (length front) (sym found ∙ sym same ∙ last) in
            let within : at < length front = slice_get_within front at q is in
            absurd (omega arith))
        | inr miss ↦ there number q (g q) (f q) None (takes q) miss.0 ∙ found
      ]

  pub tells_cut : TellsPlaces g front
  tells_cut = record { told = told_cut; all = all_cut }

  -- a number was put behind and taken off again
  pub tells_again : (e : ℕ → Option ℕ) → e number ≡ None → ((q : ℕ) → f q ≡ cond (eqb number q) (Some (length front)) (e q)) → TellsPlaces e front → TellsPlaces g front
  tells_again e fresh puts before = tells_same e g front (λ q. elim (eqb_tells number q) [
    | inl hit ↦ here number q (g q) (f q) None (takes q) hit.0 ∙ sym fresh ∙ ap e hit.1
    | inr miss ↦ there number q (g q) (f q) None (takes q) miss.0 ∙ there number q (f q) (e q) (Some (length front)) (puts q) miss.0
  ]) before

-- two numbers change places
module _ (f g h : ℕ → Option ℕ) (numbers later : List ℕ) (one other first second : ℕ) (apart : one ≢ other)
    (within : one < length numbers) (inside : other < length numbers)
    (is_first : slice_get numbers one ≡ Some first) (is_second : slice_get numbers other ≡ Some second)
    (changes : later ≡ swap numbers one other)
    (puts : (q : ℕ) → g q ≡ cond (eqb first q) (Some other) (f q))
    (then_puts : (q : ℕ) → h q ≡ cond (eqb second q) (Some one) (g q)) (tells : TellsPlaces f numbers) where
  long : length later ≡ length numbers
  long = ap (λ (l : List ℕ). length l) changes ∙ length-swap numbers one other

  swaps : Swapped (λ i. get_or numbers i 0) (λ i. get_or later i 0) one other
  swaps = swapped_from_swap numbers later one other 0 within inside changes

  at_one : slice_get later one ≡ Some second
  at_one = stands later one second (subst (λ (n : ℕ). one < n) (sym long) within)
      (swaps.0 ∙ get_or_from_slice_get numbers other second 0 is_second)

  at_other : slice_get later other ≡ Some first
  at_other = stands later other first (subst (λ (n : ℕ). other < n) (sym long) inside)
      (swaps.1 ∙ get_or_from_slice_get numbers one first 0 is_first)

  elsewhere : (at q : ℕ) → at ≢ one → at ≢ other → slice_get numbers at ≡ Some q → slice_get later at ≡ Some q
  elsewhere at q a b is = stands later at q (subst (λ (n : ℕ). at < n) (sym long) (slice_get_within numbers at q is))
      (swaps.2 at a b ∙ get_or_from_slice_get numbers at q 0 is)

  stood : (at q : ℕ) → at ≢ one → at ≢ other → slice_get later at ≡ Some q → slice_get numbers at ≡ Some q
  stood at q a b is = stands numbers at q (subst (λ (n : ℕ). at < n) long (slice_get_within later at q is))
      (sym (swaps.2 at a b) ∙ get_or_from_slice_get later at q 0 is)

  differ : eqb second first ≡ false
  differ = elim (eqb_tells second first) [
    | inl hit ↦
        (let p : f first ≡ Some one = tells.all first one is_first in
        let q : f second ≡ Some other = tells.all second other is_second in
        let same : f second ≡ f first = ap f hit.1 in
        absurd (apart (some_same one other (sym p ∙ sym same ∙ q))))
    | inr miss ↦ miss.0
  ]

  told_swapped : (q at : ℕ) → h q ≡ Some at → slice_get later at ≡ Some q
  told_swapped q at is = elim (eqb_tells second q) [
    | inl hit ↦
        (let e : one ≡ at = some_same one at (sym (here second q (h q) (g q) (Some one) (then_puts q) hit.0) ∙ is) in
        subst (λ (n : ℕ). slice_get later n ≡ Some q) e (at_one ∙ ap (λ (n : ℕ). Some n) hit.1))
    | inr miss ↦
        (let behind : g q ≡ Some at = sym (there second q (h q) (g q) (Some one) (then_puts q) miss.0) ∙ is in
        elim (eqb_tells first q) [
          | inl hit ↦
              (let e : other ≡ at = some_same other at (sym (here first q (g q) (f q) (Some other) (puts q) hit.0) ∙ behind) in
              subst (λ (n : ℕ). slice_get later n ≡ Some q) e (at_other ∙ ap (λ (n : ℕ). Some n) hit.1))
          | inr neither ↦
              (let was : slice_get numbers at ≡ Some q = tells.told q at (sym (there first q (g q) (f q) (Some other) (puts q) neither.0) ∙ behind) in
              elsewhere at q
              (λ e. neither.1 (some_same first q (sym is_first ∙ ap (slice_get numbers) (sym e) ∙ was)))
              (λ e. miss.1 (some_same second q (sym is_second ∙ ap (slice_get numbers) (sym e) ∙ was))) was)
        ])
  ]

  all_swapped : (q at : ℕ) → slice_get later at ≡ Some q → h q ≡ Some at
  all_swapped q at is = elim (eqb_tells at one) [
    | inl hit ↦
        (let e : second ≡ q = some_same second q (sym at_one ∙ ap (slice_get later) (sym hit.1) ∙ is) in
        elim (eqb_tells second q) [
          | inl same ↦ here second q (h q) (g q) (Some one) (then_puts q) same.0 ∙ ap (λ (n : ℕ). Some n) (sym hit.1)
          | inr miss ↦ absurd (miss.1 e)
        ])
    | inr not_one ↦ elim (eqb_tells at other) [
      | inl hit ↦
          (let e : first ≡ q = some_same first q (sym at_other ∙ ap (slice_get later) (sym hit.1) ∙ is) in
          let miss : eqb second q ≡ false = subst (λ (n : ℕ). eqb second n ≡ false) e differ in
          elim (eqb_tells first q) [
            | inl same ↦
                there second q (h q) (g q) (Some one) (then_puts q) miss ∙ here first q (g q) (f q) (Some other) (puts q) same.0
                ∙ ap (λ (n : ℕ). Some n) (sym hit.1)
            | inr off ↦ absurd (off.1 e)
          ])
      | inr not_other ↦
          (let found : f q ≡ Some at = tells.all q at (stood at q not_one.1 not_other.1 is) in
          elim (eqb_tells second q) [
            | inl same ↦
                absurd (not_other.1 (some_same at other (sym found ∙ ap f (sym same.1) ∙ tells.all second other is_second)))
            | inr miss ↦ elim (eqb_tells first q) [
              | inl same ↦
                  absurd (not_one.1 (some_same at one (sym found ∙ ap f (sym same.1) ∙ tells.all first one is_first)))
              | inr off ↦
                  there second q (h q) (g q) (Some one) (then_puts q) miss.0
                  ∙ there first q (g q) (f q) (Some other) (puts q) off.0 ∙ found
            ]
          ])
    ]
  ]

  pub tells_swapped : TellsPlaces h later
  tells_swapped = record { told = told_swapped; all = all_swapped }
