-- The order of the strays: what a search finds in it, and what comes of it when a stray comes or goes.
use Rattle.mc_grow.proofs.Words.{◌≡◌, ◌≢◌, ℕ, zero, suc, ◌+◌, ◌-◌, ◌<◌, ◌≤◌, ◌/◌, ◌^◌, inl, inr, if◌then◌else◌, List, [], ◌∷◌, ◌++◌, Some, None, map, length}
use Rattle.mc_grow.proofs.Words.{length-append, length-set, get_or, set, sym, ap, subst, ◌∙◌, arith, cases_eq, cases_lt, pow-succ', get_or-map, get_or_append_left}
use Rattle.mc_grow.proofs.Words.{get_or_push, get_or_read, length-map, map-append, map-set, set-get_or, reads, head_of, tail_of, slice_cmp, IsSwapped, IsAbsent, IsAt, IndexState}
use Rattle.mc_grow.proofs.Words.{binary_digits, digits_in, most_reads, IsBefore, IsGap, IsListed, IsOrder, forgotten, key_by, keys_in, ext_get_or}
use Rattle.std.proofs.lemmas.Cmp.{nat_list_cmp_total, tied_itself}
use Rattle.std.proofs.lemmas.List.Edits.{get_or-insert_at, get_or-insert_below, get_or-insert_above, get_or-remove_below, get_or-remove_above, length-insert, length-remove}
use Rattle.std.proofs.Common.{nat_cmp, Ordering, Greater}
use Rattle.std.proofs.lemmas.Simd.{map-map}
use Rattle.std.specs.Ordering.{ordering_reverse}
use Rattle.std.specs.List.{insert}
use Rattle.mc_grow.proofs.PartLemmas.{map-swapped, some_stray, stray_inside, stray_is}

-- ---- a search

module _ (keys : List (List ℕ)) (order : List ℕ) (o : IsOrder keys order) where
  places_apart : (p q : ℕ) → p < length order → q < length order → key_by keys order p ≡ key_by keys order q → p ≡ q
  places_apart p q l m e = grind (arith, cases_lt p q, cases_eq p q, o.rises p q, o.rises q p, tied_itself nat_list_cmp_total (key_by keys order p))

  pub all_before : (middle : ℕ) (key : List ℕ) → middle < length order → IsBefore (key_by keys order middle) key → (p : ℕ) → p < middle + 1 → IsBefore (key_by keys order p) key
  all_before middle key inside before p l = grind (arith, cases_eq p middle, o.rises p middle, nat_list_cmp_total.trans (key_by keys order p) (key_by keys order middle) key)

  pub all_behind : (middle : ℕ) (key : List ℕ) → slice_cmp nat_cmp (key_by keys order middle) key ≡ Greater → (p : ℕ) → middle ≤ p → p < length order → IsBefore key (key_by keys order p)
  all_behind middle key behind p l inside =
      let before : IsBefore key (key_by keys order middle) = nat_list_cmp_total.antisymm key (key_by keys order middle) ∙ ap ordering_reverse behind in
      grind (arith, cases_eq p middle, o.rises middle p, nat_list_cmp_total.trans key (key_by keys order middle) (key_by keys order p))

  none_in_gap : (key : List ℕ) (place : ℕ) → IsGap keys order key place → (n : ℕ) → n < length keys → get_or keys n [] ≡ key → ⊥
  none_in_gap key place gap n l e = let p = o.each n l in grind (arith, cases_lt p.0 place, gap.before p.0, gap.behind p.0, p.1, p.2, tied_itself nat_list_cmp_total key)

  pub its_number : (place number : ℕ) → place < length order → number < length keys → key_by keys order place ≡ get_or keys number [] → get_or order place 0 ≡ number
  its_number place number l m e = let p = o.each number m in grind (arith, p.2, places_apart place p.0 l p.1)

-- ---- a stray comes

module _ (keys : List (List ℕ)) (order : List ℕ) (key : List ℕ) (place : ℕ) (o : IsOrder keys order) (gap : IsGap keys order key place) where
  abbrev more_keys : List (List ℕ)
  more_keys = keys ++ (key ∷ [])

  abbrev longer : List ℕ
  longer = insert order place (length keys)

  in_front : (p : ℕ) → p < place → (get_or longer p 0 ≡ get_or order p 0) × (key_by more_keys longer p ≡ key_by keys order p)
  in_front p l = grind (arith, gap.inside, get_or-insert_below order place (length keys) 0 p, get_or_append_left keys (key ∷ []) [] (get_or order p 0), o.inside p)

  at_gap : (p : ℕ) → p ≡ place → (get_or longer p 0 ≡ length keys) × (key_by more_keys longer p ≡ key)
  at_gap p e = grind (arith, gap.inside, get_or-insert_at order place (length keys) 0, get_or_push keys key [] (length keys))

  in_back : (p q : ℕ) → p ≡ q + 1 → place ≤ q → q < length order → (get_or longer p 0 ≡ get_or order q 0) × (key_by more_keys longer p ≡ key_by keys order q)
  in_back p q e l m = grind (arith, gap.inside, get_or-insert_above order place (length keys) 0 q, get_or_append_left keys (key ∷ []) [] (get_or order q 0), o.inside q)

  size : length longer ≡ length order + 1
  size = length-insert order place (length keys) gap.inside

  pub order_more : IsOrder more_keys longer
  order_more =
      let many = length-append keys (key ∷ []) in
      record {
        same_length = omega (arith, size, many, o.same_length);
        inside = λ p l. grind (arith, size, many, in_front p, at_gap p, in_back p (p - 1), o.inside p, o.inside (p - 1));
        each = λ n l.
            elim (cases_eq n (length keys)) [
              | (inl its) ↦ (place, omega (arith, size, gap.inside), grind (arith, at_gap place))
              | (inr d) ↦
                  let p = o.each n (omega (arith, d, l, many)) in
                  let q = p.0 + (1 - (place - p.0)) in
                  (q, omega (arith, size, p.1), grind (arith, cases_lt p.0 place, in_front q, in_back q p.0, p.1, p.2))
            ];
        rises = λ p q l m.
            let rises = o.rises (p - 1) (q - 1) in
            grind (arith, size, in_front p, in_front q, at_gap p, at_gap q, in_back p (p - 1), in_back q (q - 1), gap.before p, gap.behind (q - 1), o.rises p q, o.rises p (q - 1));
      }

-- ---- a stray goes

module _ (keys less : List (List ℕ)) (order : List ℕ) (number place last : ℕ) (o : IsOrder keys order) (swap : IsSwapped keys less number)
    (inside : number < length keys) (place_in : place < length order) (there : get_or order place 0 ≡ number) (last_in : last < length order) (last_there : get_or order last 0 ≡ length keys - 1) where
  abbrev middle : List ℕ
  middle = set order last (get_or order place 0)

  -- where a place was
  abbrev skip : ℕ → ℕ
  skip p = p + (1 - (place - p))

  sizes : (length middle ≡ length order) × (length (forgotten order place last) + 1 ≡ length order)
  sizes =
      let one = length-set order last (get_or order place 0) in
      (one, length-remove middle place (omega (arith, one, place_in)) ∙ one)

  read : (p : ℕ) → get_or (forgotten order place last) p 0 ≡ get_or middle (skip p) 0
  read p = grind (arith, sizes.0, get_or-remove_below middle place 0 p, get_or-remove_above middle place 0 p)

  -- what stands at a place that stays: its number then and now, and its hash and key
  stays : (r : ℕ) → r < length order → r ≢ place → (get_or middle r 0 < length less) × (get_or less (get_or middle r 0) [] ≡ key_by keys order r)
  stays r l d =
      let apart : (s : ℕ) → s < length order → key_by keys order r ≡ key_by keys order s → r ≡ s = λ s. places_apart keys order o r s l in
      let ends = places_apart keys order o place last place_in last_in in
      grind (arith, reads, cases_eq number (length keys - 1), cases_eq r last, apart place place_in, apart last last_in, swap.last [], swap.others (get_or order r 0) [], o.inside r)

  now_at : (p : ℕ) → p < length (forgotten order place last) → (get_or (forgotten order place last) p 0 < length less) × (key_by less (forgotten order place last) p ≡ key_by keys order (skip p))
  now_at p l = grind (arith, sizes.1, read p, stays (skip p))

  -- the place that a number has now, from the one where it stood
  place_now : (r n : ℕ) → r < length order → (r ≡ place → ⊥) → get_or middle r 0 ≡ n → (p : ℕ) × (p < length (forgotten order place last)) × (get_or (forgotten order place last) p 0 ≡ n)
  place_now r n l d e =
      let now = r - (1 - (place + 1 - r)) in
      let is : skip now ≡ r = omega (arith, d) in
      (now, omega (arith, sizes.1, l, d, place_in), grind (arith, read now))

  pub order_less : IsOrder less (forgotten order place last)
  order_less = record {
    same_length = omega (arith, sizes.1, swap.shorter, o.same_length);
    inside = λ p l. (now_at p l).0;
    each = λ n l.
        let r = o.each n (omega (arith, l, swap.shorter)) in
        elim (cases_eq n number) [
          | (inl its) ↦ place_now last n last_in (λ e. grind (arith, swap.shorter)) (grind (arith, reads))
          | (inr other) ↦ place_now r.0 n r.1 (λ e. grind (arith, r.2)) (grind (arith, reads, r.2, swap.shorter, cases_eq r.0 last))
        ];
    rises = λ p q l m. grind (arith, sizes.1, now_at p, now_at q, o.rises (skip p) (skip q));
  }

-- ---- the same of entries

module _ {X : Type 0} (hash_of : X → ℕ) (key_of : X → List ℕ) where
  abbrev key : X → List ℕ
  key x = hash_of x ∷ key_of x

  abbrev keys : List X → List (List ℕ)
  keys = keys_in hash_of key_of

  pub many_keys : (items : List X) → length (keys items) ≡ length items
  many_keys items = length-map items key

  own_key : (items : List X) (number : ℕ) (x : X) → number < length items → x ≡ get_or items number x → get_or (keys items) number [] ≡ key x
  own_key items number x l lent = get_or-map key items number x [] l ∙ ap key (sym lent)

  pub keys_kept : (items : List X) (at : ℕ) (x y : X) → get_or (map Some items) at None ≡ Some x → hash_of y ≡ hash_of x → key_of y ≡ key_of x → keys (set items at y) ≡ keys items
  keys_kept items at x y there h k =
      let its = own_key items at x (stray_inside items at x there) (sym (stray_is items at x x there)) in
      map-set key items at y ∙ ap (set (keys items) at) ((λ i. h i ∷ k i) ∙ sym its) ∙ set-get_or (keys items) at []

  module _ (items : List X) {order : List ℕ} (o : IsOrder (keys items) order) where
    pub absent_in_gap : {hash : ℕ} {its_key : List ℕ} {place : ℕ} → IsGap (keys items) order (hash ∷ its_key) place → IsAbsent hash_of key_of (map Some items) hash its_key
    absent_in_gap {hash} {its_key} {place} gap n is =
        let l = stray_inside items n is.entry is.there in
        none_in_gap (keys items) order o (hash ∷ its_key) place gap n (omega (arith, l, many_keys items))
        (own_key items n is.entry l (sym (stray_is items n is.entry is.entry is.there)) ∙ λ i. is.same_hash i ∷ is.same_key i)

    pub found_there : {hash : ℕ} {its_key : List ℕ} {place number : ℕ} → (place < length order) × (key_by (keys items) order place ≡ hash ∷ its_key) → number ≡ get_or order place 0
        → (number < length items) × IsAt hash_of key_of (map Some items) hash its_key number
    found_there {hash} {its_key} {place} {number} found there =
        let inside : number < length items = omega (arith, o.inside place found.0, many_keys items) in
        let x = some_stray items number inside in
        let its : key x.0 ≡ hash ∷ its_key = sym (own_key items number x.0 inside (sym (stray_is items number x.0 x.0 x.1))) ∙ ap (λ (n : ℕ). get_or (keys items) n []) there ∙ found.1 in
        (inside, record { entry = x.0; there = x.1; same_hash = head_of its; same_key = tail_of its })

    -- what is compared is what stands at the place
    pub compared : {place number : ℕ} {x : X} (its_key : List ℕ) {answer : Ordering} → place < length order → number ≡ get_or order place number → x ≡ get_or items number x
        → answer ≡ slice_cmp nat_cmp (key x) its_key → slice_cmp nat_cmp (key_by (keys items) order place) its_key ≡ answer
    compared {place} {number} {x} its_key l at lent is =
        let there : number ≡ get_or order place 0 = get_or_read order place number l at 0 in
        cc (own_key items number x (omega (arith, there, o.inside place l, many_keys items)) lent)

    -- a search for a stray's own hash and key
    pub own_is_found : {number place : ℕ} {x : X} {q : List ℕ} → number < length items → x ≡ get_or items number x → q ≡ key x → IsGap (keys items) order q place → ⊥
    own_is_found {number} {place} {x} {q} l lent is gap = none_in_gap (keys items) order o q place gap number (omega (arith, many_keys items)) (own_key items number x l lent ∙ sym is)

    pub own_number : {number place : ℕ} {x : X} {q : List ℕ} → number < length items → x ≡ get_or items number x → q ≡ key x
        → (place < length order) × (key_by (keys items) order place ≡ q) → get_or order place 0 ≡ number
    own_number {number} {place} {x} l lent is found = its_number (keys items) order o place number found.0 (omega (arith, many_keys items)) (found.1 ∙ is ∙ sym (own_key items number x l lent))

    -- a stray comes, and one goes
    pub comes : {more : List X} {longer : List ℕ} {place number hash : ℕ} {its_key : List ℕ} (x : X) → IsGap (keys items) order (hash ∷ its_key) place → hash ≡ hash_of x
        → its_key ≡ key_of x → more ≡ items ++ (x ∷ []) → number ≡ length items → longer ≡ insert order place number → IsOrder (keys more) longer
    comes {more} {longer} {place} {hash = hash} {its_key} x gap same_hash same_key pushed many put =
        let new_keys : keys more ≡ keys items ++ ((hash ∷ its_key) ∷ []) = ap keys pushed ∙ map-append key items (x ∷ [])
        ∙ (λ i. keys items ++ ((sym same_hash i ∷ sym same_key i) ∷ [])) in
        let new_order : longer ≡ insert order place (length (keys items)) = put ∙ ap (insert order place) (many ∙ sym (many_keys items)) in
        rw (new_order, new_keys) (order_more (keys items) order (hash ∷ its_key) place o gap)

    pub goes : {fewer : List X} {shorter : List ℕ} {number place last : ℕ} (x : X) → IsSwapped items fewer number → number < length items → place < length order
        → get_or order place 0 ≡ number → last < length order → get_or order last 0 ≡ length items - 1 → shorter ≡ forgotten order place last → IsOrder (keys fewer) shorter
    goes {fewer} {number = number} {place} {last} x swap l place_in there last_in last_there is =
        rw is (order_less (keys items) (keys fewer) order number place last o (map-swapped key x l swap) (omega (arith, l, many_keys items)) place_in there last_in
        (omega (arith, last_there, many_keys items)))

-- ---- their hashes

-- two lists are one where the same one was taken out of a list
swapped_once : (old one other : List ℕ) (at : ℕ) → IsSwapped old one at → IsSwapped old other at → one ≡ other
swapped_once old one other at a b =
    ext_get_or 0 one other (omega (arith, a.shorter, b.shorter)) (λ k l.
    grind (arith, cases_eq k at, a.shorter, b.shorter, a.last 0, b.last 0, a.others k 0, b.others k 0))

module _ {X : Type 0} (hash_of : X → ℕ) (key_of : X → List ℕ) where
  pub hashes_kept : (items others : List X) → keys_in hash_of key_of others ≡ keys_in hash_of key_of items → map hash_of others ≡ map hash_of items
  hashes_kept items others same =
      let head : List ℕ → ℕ = λ k. get_or k 0 0 in
      sym (map-map head (key hash_of key_of) others) ∙ ap (map head) same ∙ map-map head (key hash_of key_of) items

  module _ {items : List X} {hashes order : List ℕ} (its : IsListed hash_of key_of items hashes order) where
    pub many_hashes : length hashes ≡ length items
    many_hashes = ap length its.hashes ∙ length-map items hash_of

    pub own_hash : {number hash : ℕ} (x : X) → number < length items → x ≡ get_or items number x → hash ≡ get_or hashes number hash → hash ≡ hash_of x
    own_hash {number} {hash} x l lent read = read ∙ ap (λ (all : List ℕ). get_or all number hash) its.hashes ∙ get_or-map hash_of items number x hash l ∙ ap hash_of (sym lent)

    pub hashes_more : {more : List X} {longer : List ℕ} {hash : ℕ} (x : X) → more ≡ items ++ (x ∷ []) → hash ≡ hash_of x → longer ≡ hashes ++ (hash ∷ []) → longer ≡ map hash_of more
    hashes_more {more} {longer} {hash} x pushed same put =
        put ∙ (λ i. its.hashes i ++ (same i ∷ [])) ∙ sym (ap (map hash_of) pushed ∙ map-append hash_of items (x ∷ []))

    pub hashes_less : {fewer : List X} {shorter : List ℕ} {at : ℕ} (x : X) → at < length items → IsSwapped items fewer at → IsSwapped hashes shorter at → shorter ≡ map hash_of fewer
    hashes_less {fewer} {shorter} {at} x l swap out =
        swapped_once (map hash_of items) shorter (map hash_of fewer) at (subst (λ (all : List ℕ). IsSwapped all shorter at) its.hashes out) (map-swapped hash_of x l swap)

-- ---- what a search costs

-- what is left to read after a read that halved it
pub less_to_read : (n width half seen now start : ℕ) → ((digits : ℕ) → n < 2 ^ digits → (left : ℕ) × (width < 2 ^ left) × (seen + left ≤ start + digits)) → 1 ≤ width → half + half ≤ width
    → now ≤ seen + 1 → (digits : ℕ) → n < 2 ^ digits → (left : ℕ) × (half < 2 ^ left) × (now + left ≤ start + digits)
less_to_read n width half seen now start before some most one digits l =
    let had = before digits l in
    let more : suc (had.0 - 1) ≡ had.0 = grind (arith, had.1, cases_eq had.0 0) in
    (had.0 - 1, grind (arith, had.1, pow-succ' 2 (had.0 - 1)), omega (arith, had.2, more))

pub below_power : (most n : ℕ) → n ≤ most → n < 2 ^ digits_in most n
below_power zero zero l = omega arith
below_power zero (suc n) l = absurd (omega (arith, l))
below_power (suc most) zero l = omega arith
below_power (suc most) (suc n) l = omega (arith, below_power most (suc n / 2) (omega (arith, l)), pow-succ' 2 (digits_in most (suc n / 2)))

pub reads_in_all : {X : Type 0} {v now : IndexState X} (before first second last : ℕ) → v ≡ now → first ≤ before + (if v.growing then 32 else 0) → second ≤ first + 32
    → ((digits : ℕ) → length v.strays < 2 ^ digits → last ≤ second + digits) → last ≤ before + most_reads now
reads_in_all {X} {v} {now} before first second last same a b c =
    let n = length v.strays in
    let found = c (binary_digits n) (below_power n n (omega arith)) in
    subst (λ (s : IndexState X). last ≤ before + most_reads s) same (grind (arith, a, b, found))
