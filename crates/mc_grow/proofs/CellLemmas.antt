-- Parts of a list of buckets: how many have an entry, and what is true of all where it is true of a part.
use Rattle.mc_grow.proofs.Words.{◌≡◌, ℕ, zero, suc, ◌+◌, ◌-◌, ◌<◌, ◌≤◌, ◌^◌, List, [], ◌∷◌, ◌++◌, Option, Some, None, is_some, true, map, drop, length, get_or, set, refl, sym, ap}
use Rattle.mc_grow.proofs.Words.{subst, ◌∙◌, arith, cases_lt, none-some, drop-nil, get_or_past, get_or_append_left, get_or-append-add, get_or-append_right, set-append_left, set-append_right}
use Rattle.mc_grow.proofs.Words.{get, filled, content, AreApart, IsAt, IsAbsent, Place, IndexState, IsFirstFrom, IsPlaceOf, cells, count_from, entry_at, IsFirstFilled, NoneFilledFrom}
use Rattle.mc_grow.proofs.Words.{option_or, filled_inside, in_first, entry_absent, entry_found, get_joined}
use Rattle.mc_grow.proofs.PartLemmas.{some_stray}

-- ---- how many have an entry

filled-cons : {X : Type 0} (o : Option X) (items : List (Option X)) → filled (o ∷ items) ≡ filled items + filled (o ∷ [])
filled-cons None items = omega arith
filled-cons (Some x) items = refl

pub filled-append : {X : Type 0} (xs ys : List (Option X)) → filled (xs ++ ys) ≡ filled xs + filled ys
filled-append [] ys = omega arith
filled-append (o ∷ xs) ys = omega (arith, filled-cons o xs, filled-cons o (xs ++ ys), filled-append xs ys)

pub filled-strays : {X : Type 0} (xs : List X) → filled (map Some xs) ≡ length xs
filled-strays [] = refl
filled-strays (x ∷ xs) = omega (arith, filled-strays xs)

filled-set : {X : Type 0} (items : List (Option X)) (at : ℕ) (o : Option X) → at < length items → filled (set items at o) + filled (get_or items at None ∷ []) ≡ filled items + filled (o ∷ [])
filled-set [] at o l = absurd (omega arith)
filled-set (p ∷ items) zero o l = omega (arith, filled-cons p items, filled-cons o items)
filled-set (p ∷ items) (suc at) o l = omega (arith, filled-cons p items, filled-cons p (set items at o), filled-set items at o (omega arith))

pub filled-taken : {X : Type 0} (items : List (Option X)) (at : ℕ) (x : X) → get_or items at None ≡ Some x → filled items ≡ filled (set items at None) + 1
filled-taken items at x e = grind (arith, filled-set items at None, filled_inside items at x e)

pub filled-changed : {X : Type 0} (items : List (Option X)) (at : ℕ) (x y : X) → get_or items at None ≡ Some x → filled (set items at (Some y)) ≡ filled items
filled-changed items at x y e = grind (arith, filled-set items at (Some y), filled_inside items at x e)

pub some_filled : {X : Type 0} (items : List (Option X)) (at : ℕ) → is_some (get_or items at None) ≡ true → 1 ≤ filled items
some_filled items at e = grind (arith, filled-set items at None, get_or_past items at None, cases_lt at (length items))

-- from a number on
filled-drop : {X : Type 0} (items : List (Option X)) (n : ℕ) → filled (drop n items) ≡ filled (drop (suc n) items) + filled (get_or items n None ∷ [])
filled-drop {X} [] n = ap (filled {X = X}) (drop-nil n)
filled-drop (o ∷ items) zero = filled-cons o items
filled-drop (o ∷ items) (suc n) = filled-drop items n

filled_skip : {X : Type 0} (items : List (Option X)) (low d : ℕ) → ((at : ℕ) → low ≤ at → at < low + d → get_or items at None ≡ None) → filled (drop (low + d) items) ≡ filled (drop low items)
filled_skip items low zero none = ap (λ (n : ℕ). filled (drop n items)) (omega arith)
filled_skip items low (suc d) none =
    let last : low + suc d ≡ suc (low + d) = omega arith in
    grind (arith, filled-drop items (low + d), none (low + d), filled_skip items low d (λ at l b. none at l (omega arith)))

pub drop-taken : {X : Type 0} (items : List (Option X)) (at : ℕ) (x : X) → get_or items at None ≡ Some x → filled (drop at items) ≡ filled (drop at (set items at None)) + 1
drop-taken [] at x e = absurd (none-some x e)
drop-taken {X} (o ∷ items) zero x e = ap (λ (p : Option X). filled (p ∷ items)) e
drop-taken (o ∷ items) (suc at) x e = drop-taken items at x e

pub count_parts : {X : Type 0} (old table : List (Option X)) (strays : List X) → filled (old ++ (table ++ map Some strays)) ≡ filled old + filled table + length strays
count_parts old table strays = omega (arith, filled-append old (table ++ map Some strays), filled-append table (map Some strays), filled-strays strays)

-- ---- one list behind another

pub get_second : {X : Type 0} (xs ys : List (Option X)) (at n : ℕ) → n ≡ length xs + at → get_or (xs ++ ys) n None ≡ get_or ys at None
get_second xs ys at n e = ap (λ (n : ℕ). get_or (xs ++ ys) n None) e ∙ get_or-append-add xs ys at None

-- A place of a part: what a read of the whole finds there, and what the whole is when the part has another item there.
pub record Within {X : Type 0} (part whole : List (Option X)) (at number : ℕ) (put : List (Option X) → List (Option X)) : Type 0 where
  pub reads : get_or whole number None ≡ get_or part at None
  pub writes : (o : Option X) → put (set part at o) ≡ set whole number o

within_left : {X : Type 0} (xs ys : List (Option X)) (at number : ℕ) → at < length xs → number ≡ at → Within xs (xs ++ ys) at number (λ zs. zs ++ ys)
within_left xs ys at number l e = record {
  reads = ap (λ (n : ℕ). get_or (xs ++ ys) n None) e ∙ get_or_append_left xs ys None at l;
  writes = λ o. sym (set-append_left xs ys at o l) ∙ ap (λ (n : ℕ). set (xs ++ ys) n o) (sym e);
}

within_right : {X : Type 0} (part xs ys : List (Option X)) (at n number : ℕ) (put : List (Option X) → List (Option X)) → Within part ys at n put → number ≡ length xs + n
    → Within part (xs ++ ys) at number (λ zs. xs ++ put zs)
within_right {X} part xs ys at n number put is e = record {
  reads = get_second xs ys n number e ∙ is.reads;
  writes = λ o.
      ap (λ (zs : List (Option X)). xs ++ zs) (is.writes o)
      ∙ sym (set-append_right xs ys (length xs) number o refl (omega arith) ∙ ap (λ (m : ℕ). xs ++ set ys m o) {x = number - length xs} {y = n} (omega arith));
}

-- a place of an index as contracts see it, and as the fields are
module _ {X : Type 0} {v now : IndexState X} {at : ℕ} (same : v ≡ now) where
  pub in_drained : {number : ℕ} → (at < length now.draining) × (number ≡ at) → Within v.draining (cells v) at number (λ zs. zs ++ (v.table ++ map Some v.strays))
  in_drained {number} spot = within_left v.draining (v.table ++ map Some v.strays) at number (subst (λ (s : IndexState X). at < length s.draining) (sym same) spot.0) spot.1

  pub in_table : {number : ℕ} → (at < length now.table) × (number ≡ length now.draining + at) → Within v.table (cells v) at number (λ zs. v.draining ++ (zs ++ map Some v.strays))
  in_table {number} spot =
      let its = subst (λ (s : IndexState X). (at < length s.table) × (number ≡ length s.draining + at)) (sym same) spot in
      within_right v.table v.draining (v.table ++ map Some v.strays) at at number (λ zs. zs ++ map Some v.strays) (within_left v.table (map Some v.strays) at at its.0 refl) its.1

  pub in_strays : {number : ℕ} → number ≡ length now.draining + (length now.table + at) → Within (map Some v.strays) (cells v) at number (λ zs. v.draining ++ (v.table ++ zs))
  in_strays {number} spot =
      let its = subst (λ (s : IndexState X). number ≡ length s.draining + (length s.table + at)) (sym same) spot in
      within_right (map Some v.strays) v.draining (v.table ++ map Some v.strays) at (length v.table + at) number (λ zs. v.table ++ zs)
      (within_right (map Some v.strays) v.table (map Some v.strays) at at (length v.table + at) (λ zs. zs) (record { reads = refl; writes = λ o. refl }) refl) its

  pub read_part : {part : List (Option X)} {place : Place} {x : X} {put : List (Option X) → List (Option X)}
      → Within part (cells v) at place.number put → entry_at now place ≡ Some x → get_or part at None ≡ Some x
  read_part {place = place} w there = sym w.reads ∙ ap (λ (s : IndexState X). entry_at s place) same ∙ there

  pub read_back : {part : List (Option X)} {place : Place} {x : X} {put : List (Option X) → List (Option X)}
      → Within part (cells v) at place.number put → get_or part at None ≡ Some x → entry_at now place ≡ Some x
  read_back {place = place} w here = sym (ap (λ (s : IndexState X). entry_at s place) same) ∙ w.reads ∙ here

-- ---- the first entry from a number on

module _ {X : Type 0} (xs ys : List (Option X)) where
  pub first_left : (from at : ℕ) → IsFirstFilled xs from at → IsFirstFilled (xs ++ ys) from at
  first_left from at first = record {
    entry = first.entry;
    there = in_first xs ys at first.entry first.there;
    low = first.low;
    skipped = λ k low high. get_or_append_left xs ys None k (omega (arith, filled_inside xs at first.entry first.there)) ∙ first.skipped k low high;
  }

  pub first_right : (from at low number : ℕ) → NoneFilledFrom xs from → low ≡ from - length xs → number ≡ length xs + at → IsFirstFilled ys low at → IsFirstFilled (xs ++ ys) from number
  first_right from at low number none is its first = record {
    entry = first.entry;
    there = get_second xs ys at number its ∙ first.there;
    low = omega (arith, first.low);
    skipped = λ k l high. grind (arith, cases_lt k (length xs), get_or_append_left xs ys None k, get_or-append_right xs ys (length xs) k None, none k, first.skipped (k - length xs));
  }

pub first_stray : {X : Type 0} (strays : List X) (n : ℕ) → n < length strays → IsFirstFilled (map Some strays) n n
first_stray strays n l = let x = some_stray strays n l in record { entry = x.0; there = x.1; low = omega arith; skipped = λ k low high. absurd (omega arith) }

pub first_from : {X : Type 0} (index : IndexState X) (at : ℕ) (place : Place) → IsFirstFilled (cells index) at place.number → place.number < 2 ^ 64 - 1 → IsFirstFrom index at place.number place
first_from index at place first small =
    let n = place.number in
    let far : at + (n - at) ≡ n = omega (arith, first.low) in
    let ahead : count_from index n ≡ count_from index at = grind (arith, filled_skip (cells index) at (n - at) (λ k low high. first.skipped k low (omega (arith, first.low)))) in
    record {
      filled = (first.entry, first.there);
      same = refl;
      from = first.low;
      below = small;
      skipped = first.skipped;
      ahead = ahead;
      count = grind (arith, filled-drop (cells index) n, first.there);
    }

-- ---- a search

pub absent_both : {X : Type 0} (hash_of : X → ℕ) (key_of : X → List ℕ) (xs ys : List (Option X)) (hash : ℕ) (key : List ℕ) → IsAbsent hash_of key_of xs hash key → IsAbsent hash_of key_of ys hash key
    → IsAbsent hash_of key_of (xs ++ ys) hash key
absent_both hash_of key_of xs ys hash key none rest =
    let absent = entry_absent hash_of key_of in
    (absent (xs ++ ys) hash key).1 (get_joined hash_of key_of xs ys (hash ∷ key) ∙ λ i. option_or ((absent xs hash key).0 none i) ((absent ys hash key).0 rest i))

pub placed : {X : Type 0} {hash_of : X → ℕ} {key_of : X → List ℕ} {v now : IndexState X} {hash : ℕ} {key : List ℕ} {part : List (Option X)} {at : ℕ} (place : Place)
    → v ≡ now → AreApart hash_of key_of (cells v) → entry_at v place ≡ get_or part at None → IsAt hash_of key_of part hash key at → IsPlaceOf hash_of key_of now hash key place
placed {X} {hash_of} {key_of} {v} {hash = hash} {key} place same apart reads is = subst (λ (s : IndexState X). IsPlaceOf hash_of key_of s hash key place) same (record {
  entry = is.entry;
  there = reads ∙ is.there;
  same_hash = is.same_hash;
  same_key = is.same_key;
  held = subst (λ (q : List ℕ). get (content hash_of key_of (cells v)) q ≡ Some is.entry) (λ i. is.same_hash i ∷ is.same_key i)
      (entry_found hash_of key_of (cells v) is.entry apart (place.number, reads ∙ is.there));
})
