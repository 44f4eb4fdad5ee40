-- The numbers of buckets and the places of values: what putting and taking a value changes.
use Rattle.std.proofs.Common.{◌≡◌, ◌≢◌, ℕ, zero, suc, ◌+◌, ◌-◌, ◌<◌, ◌≤◌, ◌^◌, List, [], ◌∷◌, ◌++◌, Option, Some, None, is_some, true, replicate, map, length, get_or, set}
use Rattle.std.proofs.Common.{refl, sym, ap, ◌∙◌, arith}
use Rattle.std.proofs.lemmas.Bool.{cases_eq, cases_lt}
use Rattle.std.proofs.lemmas.Option.{none-some, slice_get_read}
use Rattle.std.proofs.lemmas.List.{length-replicate, length-map, map-set, get_or_past, get_or-map, ext_get_or}
use Rattle.mc_hop.specs.Cells.{CellsState, filled}
use Rattle.mc_hop.specs.Links.{IsLinked, IsSwapped, item_of, renumbered, used}
use Rattle.mc_hop.proofs.ListLemmas.{reads, some_there, get-push, get-push_last, get-swapped, get-others, get-replicate}

item-push : {X : Type 0} (xs : List X) (y : X) (n : ℕ) → n ≤ length xs → item_of (xs ++ y ∷ []) n ≡ item_of xs n
item-push xs y zero l = refl
item-push xs y (suc i) l = get-push xs y i (omega arith)

item-set_here : {X : Type 0} (xs : List X) (y : X) (p : ℕ) → p < length xs → item_of (set xs p y) (suc p) ≡ Some y
item-set_here [] y p l = absurd (omega arith)
item-set_here (x ∷ xs) y zero l = refl
item-set_here (x ∷ xs) y (suc p) l = item-set_here xs y p (omega arith)

item-set_other : {X : Type 0} (xs : List X) (y : X) (p n : ℕ) → n ≢ suc p → item_of (set xs p y) n ≡ item_of xs n
item-set_other xs y p zero other = refl
item-set_other [] y p (suc n) other = refl
item-set_other (x ∷ xs) y zero (suc zero) other = absurd (other refl)
item-set_other (x ∷ xs) y zero (suc (suc n)) other = refl
item-set_other (x ∷ xs) y (suc p) (suc zero) other = refl
item-set_other (x ∷ xs) y (suc p) (suc (suc n)) other = item-set_other xs y p (suc n) (λ e. other (ap suc e))

none_used : {X : Type 0} (xs : List X) (n : ℕ) → n ≤ length xs → item_of xs n ≡ None → n ≡ 0
none_used xs zero l e = refl
none_used xs (suc i) l e = let x = some_there xs i (omega arith) in absurd (none-some x.0 (sym e ∙ x.1))

-- how many numbers are used when one is another
used-cons : (a : ℕ) (ats : List ℕ) → used (a ∷ ats) ≡ used ats + used (a ∷ [])
used-cons zero ats = omega arith
used-cons (suc i) ats = refl

pub used-set : (ats : List ℕ) (b n : ℕ) → b < length ats → used (set ats b n) + used (get_or ats b 0 ∷ []) ≡ used ats + used (n ∷ [])
used-set [] b n l = absurd (omega arith)
used-set (a ∷ ats) zero n l = omega (arith, used-cons a ats, used-cons n ats)
used-set (a ∷ ats) (suc b) n l = omega (arith, used-cons a ats, used-cons a (set ats b n), used-set ats b n (omega arith))

pub used-le : (ats : List ℕ) → used ats ≤ length ats
used-le [] = omega arith
used-le (zero ∷ ats) = omega (arith, used-le ats)
used-le (suc i ∷ ats) = omega (arith, used-le ats)

item_at : {X : Type 0} (xs : List X) (ats : List ℕ) (b : ℕ) → b < length ats → get_or (map (item_of xs) ats) b None ≡ item_of xs (get_or ats b 0)
item_at xs ats b l = get_or-map (item_of xs) ats b 0 None l

-- as many buckets have a value as numbers are used
filled_used : {X : Type 0} (items : List X) (ats : List ℕ) → ((b : ℕ) → get_or ats b 0 ≤ length items) → filled (map (item_of items) ats) ≡ used ats
filled_used items [] within = refl
filled_used items (zero ∷ ats) within = filled_used items ats (λ b. within (suc b))
filled_used {X} items (suc i ∷ ats) within =
    ap (λ (o : Option X). filled (o ∷ map (item_of items) ats)) (some_there items i (omega (arith, within 0))).1 ∙ ap (λ (n : ℕ). n + 1) (filled_used items ats (λ b. within (suc b)))

-- ---- a row, which contracts see as the value s

module _ {X : Type 0} {ats : List ℕ} {items : List X} {places : List ℕ} {item_room place_room : ℕ} (links : IsLinked ats items places item_room place_room)
    {words tags : List ℕ} {s : CellsState X} (seen : record { words = words; tags = tags; items = map (item_of items) ats } ≡ s) where
  pub filled_all : filled s.items ≡ length items
  filled_all = rw (← seen) (filled_used items ats (λ b. omega (arith, links.within b, links.same_length)) ∙ links.count ∙ links.same_length)

  pub filled_most : length items ≤ length s.items
  filled_most = rw (← seen) (omega (arith, length-map ats (item_of items), used-le ats, links.count, links.same_length))

  -- the bucket of a place has a value
  pub filled_at_place : {i at : ℕ} → i < length places → at ≡ get_or places i 0 → is_some (get_or s.items at None) ≡ true
  filled_at_place {i} {at} l is =
      let number : get_or ats at 0 ≡ suc i = ap (λ (n : ℕ). get_or ats n 0) is ∙ links.there i l ∙ omega arith in
      rw (← seen, item_at items ats at (omega (arith, is, links.inside i l)), number, (some_there items i (omega (arith, links.same_length))).1) refl

  -- a value is put into an empty bucket
  module _ {at : ℕ} (within : at < length s.items) (empty : get_or s.items at None ≡ None) where
    inside : at < length ats
    inside = omega (arith, rw (← seen) at within, length-map ats (item_of items))

    -- an empty bucket has no number
    unused : get_or ats at 0 ≡ 0
    unused = none_used items (get_or ats at 0) (omega (arith, links.within at, links.same_length)) (sym (item_at items ats at inside) ∙ (rw (← seen) at empty))

    pub put_room : (length items < item_room) × ((length places < place_room) × (length items + 1 < 2 ^ 25))
    put_room =
        let less : length items < length ats = grind (arith, reads, unused, inside, used-set ats at 1, used-le (set ats at 1), links.count, links.same_length) in
        (omega (arith, links.room), (omega (arith, links.more, links.same_length), omega (arith, links.small)))

    pub put_linked : (x : X) → IsLinked (set ats at (suc (length items))) (items ++ x ∷ []) (places ++ at ∷ []) item_room place_room
    put_linked x =
        let there = inside in
        let none = unused in
        record {
          same_length = grind (arith, reads, links.same_length);
          inside = λ i below. grind (arith, reads, cases_eq i (length places), links.inside i);
          there = λ i below. grind (arith, reads, cases_eq i (length places), cases_eq (get_or places i 0) at, links.there i, links.same_length);
          within = λ b. grind (arith, reads, cases_eq b at, links.within b, links.same_length);
          back = λ b more. grind (arith, reads, cases_eq b at, links.within b, links.back b, links.same_length);
          count = grind (arith, reads, used-set ats at (suc (length items)), links.count);
          room = grind (arith, reads, links.room);
          more = grind (arith, reads, links.more);
          small = grind (arith, reads, links.small);
        }

    pub put_items : (x : X) → map (item_of (items ++ x ∷ [])) (set ats at (suc (length items))) ≡ set (map (item_of items) ats) at (Some x)
    put_items x =
        let same : map (item_of (items ++ x ∷ [])) ats ≡ map (item_of items) ats = ext_get_or None _ _ (simp length-map) (λ b below.
        grind (arith, length-map, item_at (items ++ x ∷ []) ats b, item_at items ats b, item-push items x (get_or ats b 0), links.within b, links.same_length)) in
        map-set (item_of (items ++ x ∷ [])) ats at (suc (length items)) ∙ (λ i. set (same i) at (get-push_last items x i))

  -- a value is taken out of its bucket
  module _ (at : ℕ) (some : is_some (get_or s.items at None) ≡ true) {p number : ℕ} (numbered : number ≡ get_or ats at 0) (before : p ≡ number - 1) where
    -- a bucket that has a value has a number
    its : (at < length ats) × (get_or ats at 0 ≡ suc p)
    its =
        let here = rw (← seen) at some in
        grind (arith, length-map, get_or_past (map (item_of items) ats) at None, item_at items ats at, cases_lt at (length ats), cases_eq (get_or ats at 0) 0)

    pub take_here : {x : X} → x ≡ get_or items p x → get_or s.items at None ≡ Some x
    take_here {x} read =
        rw (← seen) (item_at items ats at its.0 ∙ ap (item_of items) its.1
        ∙ slice_get_read items (length items) p x refl (omega (arith, its, links.within at, links.same_length)) read)

    -- the value stands where it stood, and is another
    pub change_items : (x : X) → map (item_of (set items p x)) ats ≡ set (map (item_of items) ats) at (Some x)
    change_items x = ext_get_or None _ _ (grind (arith, reads, length-map)) same where
      same : (b : ℕ) → b < length (map (item_of (set items p x)) ats) → get_or (map (item_of (set items p x)) ats) b None ≡ get_or (set (map (item_of items) ats) at (Some x)) b None
      same b below =
          let seen_now = item_at (set items p x) ats b in
          let seen = item_at items ats b in
          let other = item-set_other items x p (get_or ats b 0) in
          let here = item-set_here items x p in
          grind (arith, its, reads, length-map, cases_eq b at, cases_eq (get_or ats b 0) (suc p), other, here, links.within b, links.within at, links.back b, links.back at, links.same_length)

    module _ {items_new : List X} {places_new : List ℕ} (items_swapped : IsSwapped items items_new p) (places_swapped : IsSwapped places places_new p) where
      abbrev now : List ℕ
      now = renumbered (set ats at 0) places_new p

      -- the bucket of the last place
      abbrev mover : ℕ
      mover = get_or places (length places - 1) 0

      its_place : get_or places p 0 ≡ at
      its_place = grind (arith, its, links.back at)

      mover_number : (get_or ats mover 0 ≡ length places) × (mover < length ats)
      mover_number = grind (arith, its, links.within at, links.there (length places - 1), links.inside (length places - 1))

      moved_is : p < length places_new → get_or places_new p 0 ≡ mover
      moved_is l = grind (arith, its, places_swapped.last 0, places_swapped.shorter)

      number_at : get_or now at 0 ≡ 0
      number_at = grind (arith, its, reads, moved_is, mover_number, places_swapped.shorter, cases_lt p (length places_new))

      number_mover : (b : ℕ) → b ≢ at → get_or ats b 0 ≡ length places → (p < length places_new) × (get_or now b 0 ≡ suc p) × (b ≡ mover)
      number_mover b other e = grind (arith, its, reads, moved_is, mover_number, its_place, places_swapped.shorter, links.back b, links.within at, cases_lt p (length places_new))

      number_other : (b : ℕ) → b ≢ at → get_or ats b 0 ≢ length places → get_or now b 0 ≡ get_or ats b 0
      number_other b other e = grind (arith, its, reads, moved_is, mover_number, cases_lt p (length places_new))

      same_length : length now ≡ length ats
      same_length = grind (arith, its, reads, cases_lt p (length places_new))

      count_now : used now + 1 ≡ used ats
      count_now = grind (arith, its, reads, used-set ats at 0, used-set (set ats at 0) mover (suc p), moved_is, mover_number, places_swapped.shorter, cases_lt p (length places_new))

      case_of : (b : ℕ) → (get_or now b 0 ≤ length places_new) × (0 < get_or now b 0 → get_or places_new (get_or now b 0 - 1) 0 ≡ b)
      case_of b =
          let others = places_swapped.others (get_or ats b 0 - 1) 0 in
          grind (arith, its, cases_eq b at, cases_eq (get_or ats b 0) (length places), number_at, number_mover b, number_other b, moved_is, links.within b, links.back b, others, its_place)

      pub take_linked : IsLinked now items_new places_new item_room place_room
      take_linked = record {
        same_length = omega (arith, items_swapped.shorter, places_swapped.shorter, links.same_length);
        inside = λ i below. grind (arith, same_length, cases_eq i p, moved_is, mover_number, places_swapped.others i 0, places_swapped.shorter, links.inside i);
        there = λ i below. grind (arith, cases_eq i p, moved_is, mover_number, number_mover mover, number_other (get_or places i 0), places_swapped.others i 0, places_swapped.shorter, links.there i);
        within = λ b. (case_of b).0;
        back = λ b more. (case_of b).1 more;
        count = omega (arith, count_now, links.count, places_swapped.shorter);
        room = omega (arith, same_length, links.room);
        more = omega (arith, same_length, links.more);
        small = omega (arith, same_length, links.small);
      }

      -- what stands under a number that stays
      kept : (n : ℕ) → n ≢ suc p → n < length places → item_of items_new n ≡ item_of items n
      kept zero apart l = refl
      kept (suc i) apart l = get-others items items_new p items_swapped i (λ e. apart (ap suc e)) (omega (arith, items_swapped.shorter, links.same_length))

      moved : p < length items_new → item_of items_new (suc p) ≡ item_of items (suc (length items_new))
      moved = get-swapped items items_new p items_swapped

      pub take_items : map (item_of items_new) now ≡ set (map (item_of items) ats) at None
      take_items = ext_get_or None _ _ (grind (arith, reads, length-map, same_length)) same where
        same : (b : ℕ) → b < length (map (item_of items_new) now) → get_or (map (item_of items_new) now) b None ≡ get_or (set (map (item_of items) ats) at None) b None
        same b below =
            let seen_now = item_at items_new now b in
            let seen = item_at items ats b in
            let last = cases_eq (get_or ats b 0) (length places) in
            grind (arith, its, reads, length-map, same_length, cases_eq b at, number_at, number_mover b, number_other b, moved, kept (get_or ats b 0), links.within b, its_place, links.back b)

-- no bucket has a value
used-none : (n : ℕ) → used (replicate n 0) ≡ 0
used-none zero = refl
used-none (suc n) = used-none n

pub IsLinked-none : {X : Type 0} (n : ℕ) {item_room place_room : ℕ} → n ≤ item_room → n ≤ place_room → n < 2 ^ 25 - 1 → IsLinked {X = X} (replicate n 0) [] [] item_room place_room
IsLinked-none n ir pr small = omega (arith, get-replicate {A = ℕ} n, length-replicate {A = ℕ}, used-none n)
