-- Where guests stand after one of them was tried again.
use Rattle.std.specs.Prelude.{slice_get, swap, nat_le, cond, if◌then◌else◌}
use Rattle.std.specs.List.{sum_by}
use Rattle.std.proofs.Common.{◌≡◌, ◌≢◌, ◌⊎◌, inl, inr, ℕ, zero, suc, ◌+◌, ◌<◌, ◌≤◌, Bool, true, false, eqb, List, [], ◌∷◌, length, get_or, Some, refl, sym, ap, ◌∙◌, subst, arith}
use Rattle.std.proofs.Common.{leb-true, leb-false}
use Rattle.std.proofs.lemmas.Bool.{cases_lt}
use Rattle.std.proofs.lemmas.Bool.Decides.{eqb_tells}
use Rattle.std.proofs.lemmas.List.Edits.{swapped_from_swap, length-swap}
use Rattle.std.proofs.lemmas.List.Sums.{sum_by-cons}
use Rattle.std.proofs.lemmas.List.Sorted.{sum_by-IsPermutation, IsPermutation-swap}
use Rattle.std.proofs.lemmas.Option.{none-some, same_Some, slice_get-get_or, slice_get_past}
use Rattle.mc_guests.specs.Guests.{RowGuest, in_line}
use Rattle.mc_guests.specs.Books.{BooksState, changed, woken}
use Rattle.mc_guests.specs.Retries.{lined, tried_again}
use Rattle.mc_guests.specs.declared.metered.WaitState.TheVariants.{Next}
use Rattle.mc_guests.proofs.JudgeLemmas.{length_changed}

-- the place whose item stands at `k` once two places were swapped
abbrev pub place : (one other k : ℕ) → ℕ
place one other k = cond (eqb k one) other (cond (eqb k other) one k)

place_is : (one other k : ℕ) → ((k ≡ one) × (place one other k ≡ other))
    ⊎ (((k ≢ one) × (k ≡ other) × (place one other k ≡ one)) ⊎ ((k ≢ one) × (k ≢ other) × (place one other k ≡ k)))
place_is one other k = elim (eqb_tells k one) [
  | inl hit ↦ inl (hit.1, ap (λ (b : Bool). cond b other (cond (eqb k other) one k)) hit.0)
  | inr miss ↦ inr (elim (eqb_tells k other) [
    | inl hit ↦ inl (miss.1, hit.1, ap (λ (b : Bool). cond b other (cond (eqb k other) one k)) miss.0 ∙ ap (λ (b : Bool). cond b one k) hit.0)
    | inr off ↦ inr (miss.1, off.1, ap (λ (b : Bool). cond b other (cond (eqb k other) one k)) miss.0 ∙ ap (λ (b : Bool). cond b one k) off.0)
  ])
]

pub place_one : (one other : ℕ) → place one other one ≡ other
place_one one other = elim (place_is one other one) [
  | inl a ↦ a.1
  | inr b ↦ elim b [ inl c ↦ absurd (c.0 refl) | inr d ↦ absurd (d.0 refl) ]
]

pub place_other : (one other : ℕ) → place one other other ≡ one
place_other one other = elim (place_is one other other) [
  | inl a ↦ a.1 ∙ a.0
  | inr b ↦ elim b [ inl c ↦ c.2 | inr d ↦ absurd (d.1 refl) ]
]

pub place_back : (one other k : ℕ) → place one other (place one other k) ≡ k
place_back one other k = elim (place_is one other k) [
  | inl a ↦ ap (place one other) a.1 ∙ place_other one other ∙ sym a.0
  | inr b ↦ elim b [
    | inl c ↦ ap (place one other) c.2 ∙ place_one one other ∙ sym c.1
    | inr d ↦ ap (place one other) d.2 ∙ d.2
  ]
]

-- a place changes with the first behind those that are awake
module _ (at awake k : ℕ) (behind : awake ≤ at) where
  place_low : k < awake → place at awake k < awake + 1
  place_low below = elim (place_is at awake k) [
    | inl a ↦ (let e = a.0 in absurd (omega (arith, e, behind, below)))
    | inr b ↦ elim b [
      | inl c ↦ (let e = c.1 in absurd (omega (arith, e, below)))
      | inr d ↦ (let e = d.2 in omega (arith, e, below))
    ]
  ]

  place_high : k ≢ at → awake ≤ k → awake + 1 ≤ place at awake k
  place_high apart above = elim (place_is at awake k) [
    | inl a ↦ absurd (apart a.0)
    | inr b ↦ elim b [
      | inl c ↦ elim (cases_lt awake at) [
        | inl less ↦ (let e = c.2 in omega (arith, e, less))
        | inr more ↦ (let e = c.1 in absurd (apart (omega (arith, e, more, behind))))
      ]
      | inr d ↦ elim (cases_lt awake k) [
        | inl less ↦ (let e = d.2 in omega (arith, e, less))
        | inr more ↦ absurd (d.1 (omega (arith, more, above)))
      ]
    ]
  ]

  place_front : k ≤ at → place at awake k ≤ at
  place_front before = elim (place_is at awake k) [
    | inl a ↦ (let e = a.1 in omega (arith, e, behind))
    | inr b ↦ elim b [
      | inl c ↦ (let e = c.2 in omega (arith, e))
      | inr d ↦ (let e = d.2 in omega (arith, e, before))
    ]
  ]

-- what stands at a place once two places were swapped
module _ {A : Type 0} (x : A) (xs : List A) (one other : ℕ) (first : one < length (x ∷ xs)) (second : other < length (x ∷ xs)) where
  reads : (at from : ℕ) → at < length (x ∷ xs) → from < length (x ∷ xs) → get_or (swap (x ∷ xs) one other) at x ≡ get_or (x ∷ xs) from x
      → slice_get (swap (x ∷ xs) one other) at ≡ slice_get (x ∷ xs) from
  reads at from here there same =
      slice_get-get_or (swap (x ∷ xs) one other) at x (subst (λ (n : ℕ). at < n) (sym (length-swap (x ∷ xs) one other)) here)
      ∙ ap (λ (y : A). Some y) same ∙ sym (slice_get-get_or (x ∷ xs) from x there)

  some_swapped : (k : ℕ) → slice_get (swap (x ∷ xs) one other) k ≡ slice_get (x ∷ xs) (place one other k)
  some_swapped k =
      let swaps = swapped_from_swap (x ∷ xs) (swap (x ∷ xs) one other) one other x first second refl in
      elim (place_is one other k) [
        | inl a ↦ ap (slice_get (swap (x ∷ xs) one other)) a.0 ∙ reads one other first second swaps.0 ∙ ap (slice_get (x ∷ xs)) (sym a.1)
        | inr b ↦ elim b [
          | inl c ↦ ap (slice_get (swap (x ∷ xs) one other)) c.1 ∙ reads other one second first swaps.1 ∙ ap (slice_get (x ∷ xs)) (sym c.2)
          | inr d ↦ elim (cases_lt k (length (x ∷ xs))) [
            | inl within ↦ reads k k within within (swaps.2 k d.0 d.1) ∙ ap (slice_get (x ∷ xs)) (sym d.2)
            | inr past ↦
                slice_get_past (swap (x ∷ xs) one other) k (subst (λ (n : ℕ). n ≤ k) (sym (length-swap (x ∷ xs) one other)) past)
                ∙ sym (slice_get_past (x ∷ xs) k past) ∙ ap (slice_get (x ∷ xs)) (sym d.2)
          ]
        ]
      ]

pub swap_reads : {A : Type 0} (xs : List A) (one other k : ℕ) → one < length xs → other < length xs
    → slice_get (swap xs one other) k ≡ slice_get xs (place one other k)
swap_reads [] one other k first second = absurd (omega (arith, first))
swap_reads (x ∷ xs) one other k first second = some_swapped x xs one other first second k

-- what stands at a place once one was changed, and what sums become
module _ {A : Type 0} (f : A → A) where
  pub changed_here : (at : ℕ) (xs : List A) (x : A) → slice_get xs at ≡ Some x → slice_get (changed f at xs) at ≡ Some (f x)
  changed_here at [] x is = absurd (none-some x is)
  changed_here zero (y ∷ xs) x is = ap (λ (z : A). Some (f z)) (same_Some y x is)
  changed_here (suc at) (y ∷ xs) x is = changed_here at xs x is

  pub changed_other : (at k : ℕ) (xs : List A) → k ≢ at → slice_get (changed f at xs) k ≡ slice_get xs k
  changed_other at k [] apart = refl
  changed_other zero zero (y ∷ xs) apart = absurd (apart refl)
  changed_other zero (suc k) (y ∷ xs) apart = refl
  changed_other (suc at) zero (y ∷ xs) apart = refl
  changed_other (suc at) (suc k) (y ∷ xs) apart = changed_other at k xs (λ e. apart (ap (λ (n : ℕ). suc n) e))

  pub changed_sum : (w : A → ℕ) (at : ℕ) (xs : List A) (x : A) → slice_get xs at ≡ Some x → sum_by w (changed f at xs) + w x ≡ sum_by w xs + w (f x)
  changed_sum w at [] x is = absurd (none-some x is)
  changed_sum w zero (y ∷ xs) x is =
      let e : y ≡ x = same_Some y x is in
      let a = sum_by-cons w (f y) xs in
      let b = sum_by-cons w y xs in
      let p : w y ≡ w x = ap w e in
      let q : w (f y) ≡ w (f x) = ap (λ (z : A). w (f z)) e in
      omega (arith, a, b, p, q)
  changed_sum w (suc at) (y ∷ xs) x is =
      let a = sum_by-cons w y (changed f at xs) in
      let b = sum_by-cons w y xs in
      let c = changed_sum w at xs x is in
      omega (arith, a, b, c)

-- The guest at a place is tried again. Who stands at `k` stood at `moved k`, and who stood there stands at `moved k`.
pub record Tried (at : ℕ) (old new : BooksState) : Type 0 where
  pub moved : ℕ → ℕ
  pub back : (k : ℕ) → moved (moved k) ≡ k
  pub numbers : (k : ℕ) → slice_get new.row.numbers k ≡ slice_get old.row.numbers (moved k)
  pub others : (k : ℕ) → moved k ≢ at → slice_get new.row.guests k ≡ slice_get old.row.guests (moved k)
  pub it : (k : ℕ) (guest : RowGuest) → moved k ≡ at → slice_get old.row.guests at ≡ Some guest → slice_get new.row.guests k ≡ Some (in_line Next guest)
  pub awake : moved at < new.awake
  pub low : (k : ℕ) → k < old.awake → moved k < new.awake
  pub high : (k : ℕ) → k ≢ at → old.awake ≤ k → new.awake ≤ moved k
  pub front : (k : ℕ) → k ≤ at → moved k ≤ at
  pub rises : new.awake ≤ old.awake + 1
  pub guests_long : length new.row.guests ≡ length old.row.guests
  pub numbers_long : length new.row.numbers ≡ length old.row.numbers
  pub sum : (w : RowGuest → ℕ) → sum_by w new.row.guests ≡ sum_by w (changed (in_line Next) at old.row.guests)
  pub rest : new ≡ record old { row = new.row; awake = new.awake }

module _ (at : ℕ) (old : BooksState) (stands : at < length old.row.guests) (numbered : at < length old.row.numbers) where
  tried_asleep : old.awake ≤ at → Tried at old (woken at (lined at Next old))
  tried_asleep behind =
      let guests : List RowGuest = changed (in_line Next) at old.row.guests in
      let long : length (changed (in_line Next) at old.row.guests) ≡ length old.row.guests = length_changed (in_line Next) at old.row.guests in
      let here : at < length (changed (in_line Next) at old.row.guests) = subst (λ (n : ℕ). at < n) (sym long) stands in
      let first : old.awake < length (changed (in_line Next) at old.row.guests) = omega (arith, behind, here) in record {
        moved = place at old.awake;
        back = place_back at old.awake;
        numbers = λ k. swap_reads old.row.numbers at old.awake k numbered (omega (arith, behind, numbered));
        others = λ k apart. swap_reads guests at old.awake k here first ∙ changed_other (in_line Next) at (place at old.awake k) old.row.guests apart;
        it = λ k guest is one. swap_reads guests at old.awake k here first ∙ ap (slice_get guests) is ∙ changed_here (in_line Next) at old.row.guests guest one;
        awake = (let e = place_one at old.awake in omega (arith, e));
        low = λ k below. place_low at old.awake k behind below;
        high = λ k apart above. place_high at old.awake k behind apart above;
        front = λ k before. place_front at old.awake k behind before;
        rises = omega arith;
        guests_long = length-swap guests at old.awake ∙ long;
        numbers_long = length-swap old.row.numbers at old.awake;
        sum = λ w. sum_by-IsPermutation w guests (swap guests at old.awake) (IsPermutation-swap guests (swap guests at old.awake) at old.awake here first refl);
        rest = refl;
      }

  tried_awake : at < old.awake → Tried at old (lined at Next old)
  tried_awake within = record {
    moved = λ k. k;
    back = λ k. refl;
    numbers = λ k. refl;
    others = λ k apart. changed_other (in_line Next) at k old.row.guests apart;
    it = λ k guest is one. ap (slice_get (changed (in_line Next) at old.row.guests)) is ∙ changed_here (in_line Next) at old.row.guests guest one;
    awake = within;
    low = λ k below. below;
    high = λ k apart above. above;
    front = λ k before. before;
    rises = omega arith;
    guests_long = length_changed (in_line Next) at old.row.guests;
    numbers_long = refl;
    sum = λ w. refl;
    rest = refl;
  }

  pub tried : Tried at old (tried_again at old)
  tried = by_test (nat_le old.awake at) refl
    where
      by_test : (b : Bool) → nat_le old.awake at ≡ b → Tried at old (if b then woken at (lined at Next old) else lined at Next old)
      by_test true is = tried_asleep (leb-true old.awake at is)
      by_test false is = tried_awake (leb-false old.awake at is)
