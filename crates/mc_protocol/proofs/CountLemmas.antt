-- How many chunks of a class the items have, after each change of the items.
use Rattle.std.proofs.Common.{◌≡◌, ℕ, ◌+◌, ◌≤◌, Bool, true, false, cond, not, ◌&&◌, List, [], ◌∷◌, length, Option, Some, None, refl, sym, ap, subst, ◌∙◌, arith}
use lib.Dec.{T}
use Rattle.std.specs.Ordering.{is_eq, is_lt}
use Rattle.std.specs.Cmp.Lexicographic.{nat_list_cmp_total}
use Rattle.std.specs.declared.cmp.Ordering.{Ordering}
use Rattle.std.specs.declared.cmp.Ordering.TheVariants.{Less, Equal, Greater}
use Rattle.std.specs.FinMap.{get, insert, remove, retain_keys, empty, entries, entries_sorted, entries-insert, entries-from_sorted, get-entries, get-remove, get-retain_keys}
use Rattle.std.specs.FinMap.{get-from_sorted, from_sorted, len-empty, len-entries, same_map, find, put, is_sorted}
use Rattle.std.specs.FinMap.Entries.{by_order, below_all, where_key, is_sorted-where_key, find-where_key}
use Rattle.std.specs.List.{sum_by}
use Rattle.std.proofs.lemmas.List.Sums.{sum_by-cons}
use Rattle.mc_time.specs.declared.expiry.Expiry.TheVariants.{Never}
use Rattle.mc_protocol.specs.Plain.{Entry, Items, chunks_in, item_need, count_of}
use Rattle.mc_protocol.specs.Laws.{of_class}
use Rattle.mc_protocol.proofs.ItemLemmas.{bytes_cmp, laws, exact, insert-remove}

abbrev pub Pair : Type 0
Pair = List ℕ × Entry

-- a key below each key of a list is not found in it
pub first : (a b : Bool) → T (a && b) → T a
first true b h = tt
first false b h = h

pub second : (a b : Bool) → T (a && b) → T b
second true b h = h
second false b h = absurd h

pub both : (a b : Bool) → T a → T b → T (a && b)
both true b g h = h
both false b g h = g

less : (o : Ordering) → T (is_lt o) → o ≡ Less
less Less h = refl
less Equal h = absurd h
less Greater h = absurd h

below_more : (x y : List ℕ) (es : List Pair) → bytes_cmp x y ≡ Less → T (below_all bytes_cmp y es) → T (below_all bytes_cmp x es)
below_more x y [] h below = tt
below_more x y (e ∷ es) h below =
    both _ _ (subst (λ (o : Ordering). T (is_lt o)) (sym (nat_list_cmp_total.trans x y e.0 h (less _ (first _ _ below)))) tt) (below_more x y es h (second _ _ below))

find_below : (q : List ℕ) (es : List Pair) → T (below_all bytes_cmp q es) → find bytes_cmp q es ≡ None
find_below q [] below = refl
find_below q (e ∷ es) below =
    ap (λ (o : Ordering). cond (is_eq o) (Some e.1) (find bytes_cmp q es)) (less _ (first _ _ below)) ∙ find_below q es (second _ _ below)

-- the entries of the items whose keys pass a test
entries-retain_keys : (items : Items) (keep : List ℕ → Bool) → entries (retain_keys items keep) ≡ where_key bytes_cmp keep (entries items)
entries-retain_keys items keep =
    let es = where_key bytes_cmp keep (entries items) in
    let sorted : T (is_sorted bytes_cmp es) = is_sorted-where_key bytes_cmp keep (entries items) (entries_sorted items) in
    let alike : (q x : List ℕ) → bytes_cmp q x ≡ Equal → keep x ≡ keep q = λ q x h. ap keep (sym (exact q x h)) in
    let same : retain_keys items keep ≡ from_sorted es = same_map nat_list_cmp_total exact _ _ (λ q.
    get-retain_keys items keep q (alike q)
    ∙ ap (λ (o : Option Entry). cond (keep q) o None) (get-entries items q)
    ∙ sym (get-from_sorted bytes_cmp es q sorted ∙ find-where_key bytes_cmp keep q (alike q) (entries items))) in
    ap (λ (m : Items). entries m) same ∙ entries-from_sorted bytes_cmp es sorted

module _ (class : ℕ) where
  abbrev pub weight : Pair → ℕ
  weight e = chunks_in (item_need e.0 e.1) class

  pub count-cons : (e : Pair) (es : List Pair) → sum_by weight (e ∷ es) ≡ weight e + sum_by weight es
  count-cons e es = sum_by-cons weight e es

  count-put : (k : List ℕ) (v : Entry) (es : List Pair) → T (is_sorted bytes_cmp es)
      → sum_by weight (put bytes_cmp k v es) + of_class k (find bytes_cmp k es) class ≡ sum_by weight es + of_class k (Some v) class
  count-put k v [] sorted = omega arith
  count-put k v (e ∷ es) sorted =
      elim (bytes_cmp k e.0) as
      (λ o. bytes_cmp k e.0 ≡ o
      → sum_by weight (by_order o ((k, v) ∷ e ∷ es) ((e.0, v) ∷ es) (e ∷ put bytes_cmp k v es)) + of_class k
      (cond (is_eq o) (Some e.1) (find bytes_cmp k es)) class ≡ sum_by weight (e ∷ es) + of_class k (Some v) class) [
        | Less ↦ λ h.
            let none = find_below k es (below_more k e.0 es h (first _ _ sorted)) in
            let more = count-cons (k, v) (e ∷ es) in
            rw none (omega arith)
        | Equal ↦ λ h.
            let same : e.0 ≡ k = sym (exact k e.0 h) in
            let before = count-cons e es in
            let after = count-cons (e.0, v) es in
            let one : weight (e.0, v) ≡ of_class k (Some v) class = ap (λ (q : List ℕ). of_class q (Some v) class) same in
            let other : weight e ≡ of_class k (Some e.1) class = ap (λ (q : List ℕ). of_class q (Some e.1) class) same in
            omega arith
        | Greater ↦ λ h.
            let rest : sum_by weight (put bytes_cmp k v es) + of_class k (find bytes_cmp k es) class ≡ sum_by weight es + of_class k (Some v) class = count-put k v es (second _ _ sorted) in
            let before = count-cons e es in
            let after = count-cons e (put bytes_cmp k v es) in
            omega arith
      ] refl

  -- an item that is put takes the place of the key's old one
  pub count-insert : (items : Items) (k : List ℕ) (v : Entry) → count_of (insert items k v) class + of_class k (get items k) class ≡ count_of items class + of_class k (Some v) class
  count-insert items k v =
      rw (entries-insert nat_list_cmp_total items k v, get-entries items k) (count-put k v (entries items) (entries_sorted items))

  -- one that is taken out counts no more
  removed_item : (items : Items) (k : List ℕ) → get (remove items k) k ≡ None
  removed_item items k = get-remove nat_list_cmp_total items k k ∙ ap (λ b. cond b None (get items k)) (laws.refl k)

  pub count-remove : (items : Items) (k : List ℕ) → count_of (remove items k) class + of_class k (get items k) class ≡ count_of items class
  count-remove items k =
      let v : Entry = record { flags = 0; expiry = Never; block = []; unique = 0; updated = 0 } in
      let back : count_of (insert (remove items k) k v) class + of_class k (get (remove items k) k) class ≡ count_of (remove items k) class + of_class k
      (Some v) class = count-insert (remove items k) k v in
      let none : of_class k (get (remove items k) k) class ≡ 0 = ap (λ (o : Option Entry). of_class k o class) (removed_item items k) in
      let same : count_of (insert (remove items k) k v) class ≡ count_of (insert items k v) class = ap (λ (m : Items). count_of m class) (insert-remove items k v) in
      let put = count-insert items k v in
      omega arith

  -- no item
  count-none : (es : List Pair) → length es ≡ 0 → sum_by weight es ≡ 0
  count-none [] none = refl
  count-none (e ∷ es) none = absurd (omega arith)

  pub count-empty : count_of empty class ≡ 0
  count-empty =
      let items : Items = empty in
      count-none (entries items) (sym (len-entries items) ∙ len-empty bytes_cmp Entry)

  count-where_key : (keep : List ℕ → Bool) (es : List Pair) → sum_by weight (where_key bytes_cmp keep es) ≤ sum_by weight es
  count-where_key keep [] = omega arith
  count-where_key keep (e ∷ es) =
      let rest = count-where_key keep es in
      let all = count-cons e es in
      let kept = count-cons e (where_key bytes_cmp keep es) in
      elim (keep e.0) as (λ b. sum_by weight (cond b (e ∷ where_key bytes_cmp keep es) (where_key bytes_cmp keep es)) ≤ sum_by weight (e ∷ es)) [
        | true ↦ omega arith
        | false ↦ omega arith
      ]

  -- those whose keys pass a test
  pub count-retain : (items : Items) (keep : List ℕ → Bool) → count_of (retain_keys items keep) class ≤ count_of items class
  count-retain items keep = rw (entries-retain_keys items keep) (count-where_key keep (entries items))

  -- those whose keys pass a test, and the others
  parts : (meant : List ℕ → Bool) (es : List Pair) → sum_by weight es ≡ sum_by weight (where_key bytes_cmp meant es) + sum_by weight (where_key bytes_cmp (λ key. not (meant key)) es)
  parts meant [] = omega arith
  parts meant (e ∷ es) =
      let rest = parts meant es in
      let all = count-cons e es in
      let in_first = count-cons e (where_key bytes_cmp meant es) in
      let in_second = count-cons e (where_key bytes_cmp (λ key. not (meant key)) es) in
      let first = where_key bytes_cmp meant es in
      let second = where_key bytes_cmp (λ key. not (meant key)) es in
      elim (meant e.0) as (λ b. sum_by weight (e ∷ es) ≡ sum_by weight (cond b (e ∷ first) first) + sum_by weight (cond (not b) (e ∷ second) second)) [
        | true ↦ omega arith
        | false ↦ omega arith
      ]

  pub count-parted : (items : Items) (meant : List ℕ → Bool) → count_of items class ≡ count_of (retain_keys items meant) class + count_of (retain_keys items (λ key. not (meant key))) class
  count-parted items meant = rw (entries-retain_keys items meant, entries-retain_keys items (λ key. not (meant key))) (parts meant (entries items))
