-- The keys of each number are counted, shelf by shelf.
use Rattle.mc_shared.proofs.Words.{◌≡◌, ◌≢◌, ℕ, zero, suc, ◌+◌, ◌*◌, ◌/◌, ◌%◌, ◌≤◌, ◌<◌, List, length, Some, get_or, slice_get, slice_index, set, replicate, refl, sym, ap, ◌∙◌, subst, arith}
use Rattle.mc_shared.proofs.Words.{mod-lt, div-add-mod', ◌==◌, get_or-set_same, get_or-set_other, length-set, same_from_place, mul-add-lt, div_below, mod_below, none-some, slice_get-get_or}
use Rattle.mc_shared.proofs.Words.{dite, ℕ_discrete, empty, get-empty, Plain, flushed, ShelfState, keys_with, number_of, shelf_of, IsShelfOf, AreAllOf, AreCountsOfAll, AreKeyCounts, order}
use Rattle.mc_shared.proofs.Words.{Beginning, AreKeys, SeatView, KeysAreCounted, HasPlaces, AreNone}
use Rattle.mc_shared.proofs.NumberLemmas.{count_none}
use Rattle.mc_shared.proofs.NumberSteps.{shelf_named, own_at}
use Rattle.mc_shared.proofs.NumberSweeps.{off_shelf}

-- so many places of 0
pub zero_at : (long n : ℕ) → slice_index (replicate {A = ℕ} long 0) n ≡ 0
zero_at zero n = refl
zero_at (suc long) zero = refl
zero_at (suc long) (suc n) = zero_at long n

-- the first so many shelves were counted, and none of the others
pub record CountsFirst (shelves : List ShelfState) (first : ℕ) (counts : List ℕ) : Type 0 where
  pub many : length counts ≡ 4096
  pub counted : (hash_of : List ℕ → ℕ) (state : Plain) (all : AreAllOf hash_of state shelves)
      → (number : ℕ) → number < 4096 → number % all.count < first → slice_index counts number ≡ keys_with hash_of number state.items
  pub none : (hash_of : List ℕ → ℕ) (state : Plain) (all : AreAllOf hash_of state shelves)
      → (number : ℕ) → number < 4096 → first ≤ number % all.count → slice_index counts number ≡ 0

module _ (hash_of : List ℕ → ℕ) (state : Plain) (shelves : List ShelfState) (all : AreAllOf hash_of state shelves) where
  abbrev start : Beginning
  start = record { shelves = all.count; hash_of = hash_of; plain = state }

  -- the next shelf's places are 0
  pub next_places : (counts : List ℕ) (at : ℕ) (shelf : ShelfState) → at < length shelves → shelf ≡ get_or shelves at shelf
      → CountsFirst shelves at counts → HasPlaces shelf.content counts
  next_places counts at shelf low is first = record {
    many = first.many;
    zero = λ key item hash stands stored.
        let part = all.parts.each at shelf (slice_get-get_or shelves at shelf low ∙ ap Some (sym is)) in
        let own : shelf_of hash_of all.count key ≡ at = dite (ℕ_discrete (shelf_of hash_of all.count key) at) (λ e. e)
        (λ other. absurd (none-some item (sym (part.apart key other) ∙ stands))) in
        let same : hash % 4096 % all.count ≡ at =
        shelf_named hash all.count (4096 / all.count) all.divides ∙ (ap (λ h. h % all.count) (part.hashes key hash stored) ∙ own) in
        first.none hash_of state all (hash % 4096) (mod-lt hash (omega arith)) (omega (arith, same));
  }

  next_counted : (counts new : List ℕ) (at : ℕ) (shelf : ShelfState) → slice_get shelves at ≡ Some shelf
      → CountsFirst shelves at counts → KeysAreCounted shelf.content counts new → (number : ℕ) → number < 4096 → number % all.count < at + 1
      → slice_index new number ≡ keys_with hash_of number state.items
  next_counted counts new at shelf is first added number low few =
      let part : IsShelfOf hash_of all.count state at shelf.content = all.parts.each at shelf is in
      let more = added.counted hash_of part.hashes number low in
      dite (ℕ_discrete (number % all.count) at)
      (λ own.
      let was = first.none hash_of state all number low (omega (arith, own)) in
      let same = own_at start at (4096 / all.count) all.divides state shelf.content part number own in
      omega (arith, more, was, same))
      (λ other.
      let was = first.counted hash_of state all number low (omega (arith, few, other)) in
      let none = off_shelf start at all.divides 0 shelf.content shelf.content state part number other in
      omega (arith, more, was, none))

  next_none : (counts new : List ℕ) (at : ℕ) (shelf : ShelfState) → slice_get shelves at ≡ Some shelf
      → CountsFirst shelves at counts → KeysAreCounted shelf.content counts new
      → (number : ℕ) → number < 4096 → at + 1 ≤ number % all.count → slice_index new number ≡ 0
  next_none counts new at shelf is first added number low behind =
      let part : IsShelfOf hash_of all.count state at shelf.content = all.parts.each at shelf is in
      let more = added.counted hash_of part.hashes number low in
      let was = first.none hash_of state all number low (omega (arith, behind)) in
      let none = off_shelf start at all.divides 0 shelf.content shelf.content state part number (λ own. omega (arith, own, behind)) in
      omega (arith, more, was, none)

pub counts_next : (shelves : List ShelfState) (counts new : List ℕ) (at : ℕ) (shelf : ShelfState) → at < length shelves → shelf ≡ get_or shelves at shelf
    → CountsFirst shelves at counts → KeysAreCounted shelf.content counts new → CountsFirst shelves (at + 1) new
counts_next shelves counts new at shelf low same first added = let is = slice_get-get_or shelves at shelf low ∙ ap Some (sym same) in record {
  many = added.many;
  counted = λ hash_of state all. next_counted hash_of state shelves all counts new at shelf is first added;
  none = λ hash_of state all. next_none hash_of state shelves all counts new at shelf is first added;
}

-- all of them
pub counts_all : (shelves : List ShelfState) (counts : List ℕ) (at : ℕ) → at ≡ length shelves → CountsFirst shelves at counts → AreCountsOfAll shelves counts
counts_all shelves counts at is first = record {
  many = first.many;
  counted = λ hash_of state all number low.
      let inside : number % all.count < all.count = mod-lt number all.parts.some_shelf in
      let long = all.parts.number in
      first.counted hash_of state all number low (omega (arith, inside, long, is));
}

-- ---- counts that words tell

-- the keys of one number more were counted
keys_set : (start : Beginning) (v : SeatView) (counts : List ℕ) (number count n : ℕ) → number < length counts → AreKeys start v number count
    → (n ≢ number → AreKeys start v n (slice_index counts n)) → AreKeys start v n (slice_index (set counts number count) n)
keys_set start v counts number count n inside here others = dite (ℕ_discrete n number)
    (λ e. subst (λ (k : ℕ). AreKeys start v k (slice_index (set counts number count) k)) (sym e)
    (subst (AreKeys start v number) (sym (get_or-set_same counts number count 0 inside)) here))
    (λ ne. subst (AreKeys start v n) (sym (get_or-set_other counts number n count 0 ne)) (others ne))

-- a flush at once leaves no key
pub none_left : (hash_of : List ℕ → ℕ) (number delay now : ℕ) (m : Plain) → delay ≡ 0 → keys_with hash_of number (flushed delay m now).items ≡ 0
none_left hash_of number delay now m is =
    subst (λ (d : ℕ). keys_with hash_of number (flushed d m now).items ≡ 0) (sym is)
    (count_none (λ key. number_of hash_of key == number) empty (λ key passes. get-empty order key))

-- ---- counts that words of one shelf tell

-- its numbers of the rows before one were read
pub record ReadsRows (start : Beginning) (v : SeatView) (shelves at row : ℕ) (counts : List ℕ) : Type 0 where
  pub many : length counts ≡ 4096
  pub counted : (n : ℕ) → n < 4096 → n % shelves ≡ at → n / shelves < row → AreKeys start v n (slice_index counts n)
  pub none : (n : ℕ) → n < 4096 → n % shelves ≢ at → slice_index counts n ≡ 0

pub rows_start : (start : Beginning) (v : SeatView) (shelves at : ℕ) (counts : List ℕ) → AreNone counts → ReadsRows start v shelves at 0 counts
rows_start start v shelves at counts are = record {
  many = are.many;
  counted = λ n low own few. absurd (omega (arith, few));
  none = λ n low other. are.none n;
}

-- where a row's number lies
pub row_number : (shelves at row : ℕ) → at < shelves → (row * shelves + at) % shelves ≡ at
row_number shelves at row inside =
    let number : ℕ = row * shelves + at in
    let low = mod_below number shelves (omega (arith, inside)) in
    (same_from_place (number / shelves) (number % shelves) row at shelves low inside (div-add-mod' number shelves)).1

pub row_below : (step at row : ℕ) → 4096 / step * step ≡ 4096 → at < step → row < 4096 / step → row * step + at < 4096
row_below step at row divides inside low =
    let q : ℕ = 4096 / step in
    let less = mul-add-lt row step at q low inside in
    let all = native.Mathlib.Nat.mul_comm q step in let whole : q * step ≡ 4096 = divides in omega (arith, less, all, whole)

pub rows_next : (start : Beginning) (v : SeatView) (shelves at row : ℕ) (counts : List ℕ) (count : ℕ) → at < shelves → row * shelves + at < 4096
    → ReadsRows start v shelves at row counts → AreKeys start v (row * shelves + at) count → ReadsRows start v shelves at (row + 1) (set counts (row * shelves + at) count)
rows_next start v shelves at row counts count inside below so here =
    let number : ℕ = row * shelves + at in
    let long = so.many in
    record {
      many = length-set counts number count ∙ so.many;
      counted = λ n low own few. keys_set start v counts number count n (omega (arith, long, below)) here (λ ne. so.counted n low own
          (let other : n / shelves ≢ row = (λ e. ne (sym (div-add-mod' n shelves) ∙ (λ i. e i * shelves + own i))) in omega (arith, few, other)));
      none = λ n low other. get_or-set_other counts number n count 0 (λ e. other (ap (λ k. k % shelves) e ∙ row_number shelves at row inside)) ∙ so.none n low other;
    }

pub rows_all : (start : Beginning) (v : SeatView) (step at row : ℕ) (counts : List ℕ) → 4096 / step * step ≡ 4096 → at < step
    → 4096 / step ≤ row → ReadsRows start v step at row counts → AreKeyCounts start v step at counts
rows_all start v step at row counts divides inside all so = record {
  many = so.many;
  counted = λ n low own. so.counted n low own (let q : ℕ = 4096 / step in let whole : q * step ≡ 4096 = divides in
      let less : n / step < q = div_below n step q (omega (arith, inside)) (omega (arith, low, whole)) in omega (arith, less, all));
  none = so.none;
}
