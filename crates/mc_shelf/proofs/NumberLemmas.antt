-- How many keys have a number, counted over the places of an index.
use Rattle.mc_shelf.proofs.Common.{[], ◌%◌, ◌+◌, ◌-◌, ◌<◌, ◌^◌, ◌∙◌, ◌∷◌, ◌≡◌, ◌≤◌, ap, arith, Bool, cases_eq, cells, cond, cond_both, content, count, drop, drop-nil, empty, entries_of}
use Rattle.mc_shelf.proofs.Common.{EntriesAreKeyed, Entry, entry_at, EntryState, eq-eqb, eqb, false, filled, get, get-empty, get-from_entries, get-insert, get_or, get_or-set_other}
use Rattle.mc_shelf.proofs.Common.{get_or-set_same, hash_in, HasPlaces, IndexState, inl, inr, insert, is_eq, is_some, IsFirstFrom, IsHashOf, IsNext, Items, items_in, key_in, KeysAreCounted}
use Rattle.mc_shelf.proofs.Common.{len, len-empty, len-insert, length, length-set, List, nat_list_cmp_total, ne_eqb, None, none-some, Option, Place, refl, retain_keys, rows, set}
use Rattle.mc_shelf.proofs.Common.{ShelfContent, Some, subst, suc, sym, true, zero, ℕ}
use Rattle.std.proofs.lemmas.Nat.{mod_below}
use Rattle.mc_shelf.specs.Numbers.{keys_with, number_of}
use Rattle.mc_shelf.proofs.KeyLemmas.{order, get_kept, same_maps}
use Rattle.mc_shelf.proofs.LabelLemmas.{same_list}
use Rattle.mc_shelf.proofs.KeyMapLemmas.{hash_held, items-empty, items-insert, labelled-content, not_found}
use Rattle.mc_shelf.proofs.IndexLemmas.{hash_here, in_bucket, item_here}
use Rattle.mc_shelf.proofs.ShelfLemmas.{content_of}

-- ---- the entries of places

-- 1 where an entry's hash has the number
abbrev pub one_of : ℕ → EntryState → ℕ
one_of n e = cond (eqb (e.hash % 4096) n) 1 0

-- how many entries of some places have it
abbrev pub cells_with : ℕ → List (Option EntryState) → ℕ
cells_with n [] = 0
cells_with n (None ∷ xs) = cells_with n xs
cells_with n (Some e ∷ xs) = one_of n e + cells_with n xs

one_most : (n : ℕ) (e : EntryState) → one_of n e ≤ 1
one_most n e = elim (eqb (e.hash % 4096) n) as (λ b. cond b 1 0 ≤ 1) [ true ↦ omega arith | false ↦ omega arith ]

with_skip : (n : ℕ) (xs : List (Option EntryState)) (low high : ℕ) → low ≤ high → ((k : ℕ) → low ≤ k → k < high → get_or xs k None ≡ None) → cells_with n (drop high xs) ≡ cells_with n (drop low xs)
with_skip n [] low high l none = ap (cells_with n) (drop-nil high ∙ sym (drop-nil low))
with_skip n (o ∷ xs) zero zero l none = refl
with_skip n (o ∷ xs) zero (suc high) l none =
    with_skip n xs zero high (omega arith) (λ k low below. none (suc k) (omega arith) (omega (arith, below)))
    ∙ sym (ap (λ (p : Option EntryState). cells_with n (p ∷ xs)) (none 0 (omega arith) (omega arith)))
with_skip n (o ∷ xs) (suc low) zero l none = absurd (omega (arith, l))
with_skip n (o ∷ xs) (suc low) (suc high) l none =
    with_skip n xs low high (omega (arith, l)) (λ k above below. none (suc k) (omega (arith, above)) (omega (arith, below)))

with_here : (n : ℕ) (xs : List (Option EntryState)) (at : ℕ) (e : EntryState) → get_or xs at None ≡ Some e → cells_with n (drop at xs) ≡ one_of n e + cells_with n (drop (suc at) xs)
with_here n [] at e is = absurd (none-some e is)
with_here n (o ∷ xs) zero e is = ap (λ (p : Option EntryState). cells_with n (p ∷ xs)) is
with_here n (o ∷ xs) (suc at) e is = with_here n xs at e is

with_most : (n : ℕ) (xs : List (Option EntryState)) (at : ℕ) → cells_with n xs ≤ at + cells_with n (drop at xs)
with_most n xs zero = omega arith
with_most n [] (suc at) = omega arith
with_most n (None ∷ xs) (suc at) = let rest = with_most n xs at in omega (arith, rest)
with_most n (Some e ∷ xs) (suc at) =
    let rest = with_most n xs at in
    let one = one_most n e in
    omega (arith, rest, one)

with_none : (n : ℕ) (xs : List (Option EntryState)) (at : ℕ) → ((k : ℕ) → at ≤ k → get_or xs k None ≡ None) → cells_with n (drop at xs) ≡ 0
with_none n [] at none = ap (cells_with n) (drop-nil at)
with_none n (None ∷ xs) zero none = with_none n xs zero (λ k low. none (suc k) (omega arith))
with_none n (Some e ∷ xs) zero none = absurd (none-some e (sym (none 0 (omega arith))))
with_none n (o ∷ xs) (suc at) none = with_none n xs at (λ k low. none (suc k) (omega (arith, low)))

-- ---- keys that come

module _ (hash_of : List ℕ → ℕ) (n : ℕ) where
  abbrev has : List ℕ → Bool
  has key = eqb (number_of hash_of key) n

  module _ (items : Items) (key : List ℕ) (item : Entry) (none : get items key ≡ None) where
    abbrev kept : Items
    kept = retain_keys items has

    kept_none : get kept key ≡ None
    kept_none = get_kept items has key ∙ cond_both (has key) (get items key) None (λ o. o ≡ None) (λ _. none) (λ _. refl)

    at_key : (q : List ℕ) → get (retain_keys (insert items key item) has) q ≡ cond (has q) (cond (is_eq (order q key)) (Some item) (get items q)) None
    at_key q = get_kept (insert items key item) has q ∙ ap (λ (o : Option Entry). cond (has q) o None) (get-insert nat_list_cmp_total items key item q)

    key_of_number : has key ≡ true → retain_keys (insert items key item) has ≡ insert kept key item
    key_of_number passes = same_maps _ _ (λ q.
        at_key q
        ∙ elim (is_eq (order q key)) as (λ t. is_eq (order q key) ≡ t → cond (has q) (cond t (Some item) (get items q)) None ≡ cond t (Some item) (cond (has q) (get items q) None)) [
          | true ↦ λ same. ap (λ b. cond b (Some item) None) (ap has (same_list q key same) ∙ passes)
          | false ↦ λ other. refl
        ] refl
        ∙ ap (cond (is_eq (order q key)) (Some item)) (sym (get_kept items has q))
        ∙ sym (get-insert nat_list_cmp_total kept key item q))

    key_of_another : has key ≡ false → retain_keys (insert items key item) has ≡ kept
    key_of_another fails = same_maps _ _ (λ q.
        at_key q
        ∙ cond_both (is_eq (order q key)) (Some item) (get items q) (λ o. cond (has q) o None ≡ cond (has q) (get items q) None)
        (λ same. let off : has q ≡ false = ap has (same_list q key same) ∙ fails in
        ap (λ b. cond b (Some item) None) off ∙ sym (ap (λ b. cond b (get items q) None) off)) (λ other. refl)
        ∙ sym (get_kept items has q))

    -- a key that comes counts for its number
    pub key_comes : keys_with hash_of n (insert items key item) ≡ cond (has key) 1 0 + keys_with hash_of n items
    key_comes =
        cond_both (has key) 1 0 (λ one. keys_with hash_of n (insert items key item) ≡ one + keys_with hash_of n items)
        (λ passes. let more : keys_with hash_of n (insert items key item) ≡ len kept + 1 =
        ap (λ (m : Items). len m) (key_of_number passes) ∙ len-insert nat_list_cmp_total kept key item ∙ ap (λ (o : Option Entry). cond (is_some o) (len kept) (len kept + 1)) kept_none in
        omega (arith, more))
        (λ fails. let same : keys_with hash_of n (insert items key item) ≡ len kept = ap (λ (m : Items). len m) (key_of_another fails) in omega (arith, same))

  pub keys_none : (items : Items) → items ≡ empty → keys_with hash_of n items ≡ 0
  keys_none items is =
      ap (λ (m : Items). len m) (same_maps (retain_keys items has) empty (λ q.
      get_kept items has q
      ∙ ap (λ (m : Items). cond (has q) (get m q) None) is
      ∙ ap (λ (o : Option Entry). cond (has q) o None) (get-empty order q)
      ∙ elim (has q) as (λ b. cond {A = Option Entry} b None None ≡ None) [ true ↦ refl | false ↦ refl ]
      ∙ sym (get-empty order q)))
      ∙ len-empty order Entry

  -- ---- the keys of places

  -- each entry has the hash of its key
  abbrev AreFit : List (Option EntryState) → Type 0
  AreFit xs = (at : ℕ) (e : EntryState) → get_or xs at None ≡ Some e → e.hash ≡ hash_of e.key

  abbrev map_of : List (Option EntryState) → Rattle.mc_shelf.specs.KeyMaps.EntryMap
  map_of xs = content hash_in key_in xs

  entry_fits : (xs : List (Option EntryState)) → AreFit xs → (label : List ℕ) (e : EntryState) → get (map_of xs) label ≡ Some e → e.hash ≡ hash_of e.key
  entry_fits xs fit label e is =
      let there = in_bucket xs label e (sym (get-from_entries nat_list_cmp_total (rows hash_in key_in xs) label) ∙ is) in
      fit there.0 e there.1

  keyed_fit : (xs : List (Option EntryState)) → AreFit xs → EntriesAreKeyed (map_of xs)
  keyed_fit xs fit = record {
    labelled = labelled-content hash_in key_in xs;
    one_hash = λ a b at_a at_b keys. entry_fits xs fit (a.hash ∷ a.key) a at_a ∙ ap hash_of keys ∙ sym (entry_fits xs fit (b.hash ∷ b.key) b at_b);
  }

  insert_len : (e : EntryState) (xs : List (Option EntryState)) → len (map_of (Some e ∷ xs)) ≡ cond (is_some (get (map_of xs) (e.hash ∷ e.key))) (len (map_of xs)) (len (map_of xs) + 1)
  insert_len e xs = len-insert nat_list_cmp_total (map_of xs) (e.hash ∷ e.key) e

  len_most : (xs : List (Option EntryState)) → len (map_of xs) ≤ filled xs
  len_most [] = let none : len (map_of []) ≡ 0 = len-empty order EntryState in omega (arith, none)
  len_most (None ∷ xs) = len_most xs
  len_most (Some e ∷ xs) =
      let rest = len_most xs in
      cond_both (is_some (get (map_of xs) (e.hash ∷ e.key))) (len (map_of xs)) (len (map_of xs) + 1) (λ n. len (map_of (Some e ∷ xs)) ≡ n → len (map_of (Some e ∷ xs)) ≤ filled xs + 1)
      (λ _ is. omega (arith, rest, is)) (λ _ is. omega (arith, rest, is)) (insert_len e xs)

  -- where the map has as many as there are entries, each of them is new to those behind it
  fresh : (e : EntryState) (xs : List (Option EntryState)) → len (map_of (Some e ∷ xs)) ≡ filled xs + 1 → (get (map_of xs) (e.hash ∷ e.key) ≡ None) × (len (map_of xs) ≡ filled xs)
  fresh e xs all =
      let most = len_most xs in
      elim (get (map_of xs) (e.hash ∷ e.key)) as (λ o. len (map_of (Some e ∷ xs)) ≡ cond (is_some o) (len (map_of xs)) (len (map_of xs) + 1) → (o ≡ None) × (len (map_of xs) ≡ filled xs)) [
        | None ↦ λ is. (refl, omega (arith, all, is))
        | Some x ↦ λ is. absurd (omega (arith, all, is, most))
      ] (insert_len e xs)

  pub cells_keys : (xs : List (Option EntryState)) → AreFit xs → len (map_of xs) ≡ filled xs → keys_with hash_of n (items_in (map_of xs)) ≡ cells_with n xs
  cells_keys [] fit all = keys_none (items_in (map_of [])) items-empty
  cells_keys (None ∷ xs) fit all = cells_keys xs (λ at. fit (suc at)) all
  cells_keys (Some e ∷ xs) fit all =
      let later : AreFit xs = λ at. fit (suc at) in
      let m = map_of xs in
      let keyed : EntriesAreKeyed m = keyed_fit xs later in
      let new = fresh e xs all in
      let own : e.hash ≡ hash_of e.key = fit 0 e refl in
      let right : IsHashOf m e.key e.hash = λ stored is.
      let h = hash_held m keyed e.key stored is in
      sym h.same_part ∙ entry_fits xs later (h.entry.hash ∷ e.key) h.entry h.there ∙ ap hash_of h.same_key ∙ sym own in
      let none : get (items_in m) e.key ≡ None = not_found m keyed e.hash e.key right new.0 in
      let one : cond (has e.key) 1 0 ≡ one_of n e = ap (λ h. cond (eqb (h % 4096) n) 1 0) (sym own) in
      let come : keys_with hash_of n (items_in (map_of (Some e ∷ xs))) ≡ cond (has e.key) 1 0 + keys_with hash_of n (items_in m) =
      ap (keys_with hash_of n) (items-insert m keyed e right) ∙ key_comes (items_in m) e.key e.item none in
      let rest = cells_keys xs later new.1 in
      omega (arith, one, come, rest)

-- ---- the walk

-- the entries of lower numbers were counted
pub record Counting (index : IndexState EntryState) (at : ℕ) (old new : List ℕ) : Type 0 where
  pub many : length new ≡ 4096
  pub counted : (n : ℕ) → get_or new n 0 + cells_with n (drop at (cells index)) ≡ get_or old n 0 + cells_with n (cells index)

abbrev pub raised : List ℕ → ℕ → List ℕ
raised counts at = set counts at (get_or counts at 0 + 1)

raised_at : (counts : List ℕ) (e : EntryState) (n : ℕ) → length counts ≡ 4096 → get_or (raised counts (e.hash % 4096)) n 0 ≡ get_or counts n 0 + one_of n e
raised_at counts e n many =
    let at = e.hash % 4096 in
    let inside : at < length counts = subst (λ k. at < k) (sym many) (let low : at < 4096 = mod_below e.hash 4096 (omega arith) in low) in
    elim (cases_eq n at) [
      | inl same ↦
          let here : get_or (raised counts at) at 0 ≡ get_or counts at 0 + 1 = get_or-set_same counts at (get_or counts at 0 + 1) 0 inside in
          let one : one_of n e ≡ 1 = ap (λ b. cond b 1 0) (eq-eqb at n (sym same)) in
          ap (λ k. get_or (raised counts at) k 0) same ∙ here ∙ (λ i. get_or counts (sym same i) 0 + sym one i)
      | inr apart ↦
          let there : get_or (raised counts at) n 0 ≡ get_or counts n 0 = get_or-set_other counts at n (get_or counts at 0 + 1) 0 apart in
          let none : one_of n e ≡ 0 = ap (λ b. cond b 1 0) (ne_eqb at n (λ same. apart (sym same))) in
          omega (arith, there, none)
    ]

module _ (index : IndexState EntryState) (at number : ℕ) (place : Place) (first : IsFirstFrom index at number place) (e : EntryState) (there : entry_at index place ≡ Some e) where
  ahead : (n : ℕ) → cells_with n (drop at (cells index)) ≡ one_of n e + cells_with n (drop (number + 1) (cells index))
  ahead n =
      sym (with_skip n (cells index) at number first.from first.skipped)
      ∙ with_here n (cells index) number e (ap (λ n. get_or (cells index) n None) (sym first.same) ∙ there)
      ∙ ap (λ k. one_of n e + cells_with n (drop k (cells index))) {x = suc number} (omega arith)

  pub counts_next : (old counts new : List ℕ) → Counting index at old counts → new ≡ raised counts (e.hash % 4096) → Counting index (number + 1) old new
  counts_next old counts new held is = record {
    many = ap (λ (l : List ℕ). length l) is ∙ length-set counts (e.hash % 4096) (get_or counts (e.hash % 4096) 0 + 1) ∙ held.many;
    counted = λ n.
        let had = held.counted n in
        let rest = ahead n in
        let one : get_or new n 0 ≡ get_or counts n 0 + one_of n e = ap (λ (l : List ℕ). get_or l n 0) is ∙ raised_at counts e n held.many in
        omega (arith, had, rest, one);
  }

  -- no count is more than the places that were passed
  pub counts_fit : (old counts : List ℕ) → Counting index at old counts → get_or old (e.hash % 4096) 0 ≡ 0 → get_or counts (e.hash % 4096) 0 < 2 ^ 64 - 1
  counts_fit old counts held zero_there =
      let had = held.counted (e.hash % 4096) in
      let most = with_most (e.hash % 4096) (cells index) at in
      omega (arith, had, most, zero_there, first.from, first.below)

-- the count of each entry's number was 0
pub counts_zero : (greatest : ℕ) (cut : Option ℕ) (index : IndexState EntryState) → EntriesAreKeyed (entries_of index) → (counts : List ℕ) → HasPlaces (content_of greatest cut index) counts
    → (number : ℕ) (e : EntryState) → get_or (cells index) number None ≡ Some e → get_or counts (e.hash % 4096) 0 ≡ 0
counts_zero greatest cut index keyed counts places number e is =
    let item = item_here index keyed number e is in
    places.zero e.key item.0.item e.hash item.1 (hash_here index keyed number e is)

-- at the end
pub all_counted : (greatest : ℕ) (cut : Option ℕ) (index : IndexState EntryState) → EntriesAreKeyed (entries_of index) → len (entries_of index) ≡ count index → (at : ℕ) → IsNext index at None
    → (old new : List ℕ) → Counting index at old new → KeysAreCounted (content_of greatest cut index) old new
all_counted greatest cut index keyed once at none old new held = record {
  many = held.many;
  counted = λ hash_of fits n below.
      let rest = with_none n (cells index) at none in
      let keys = cells_keys hash_of n (cells index) (λ k e is. fits e.key e.hash (hash_here index keyed k e is)) once in
      let had = held.counted n in
      omega (arith, rest, keys, had);
}

-- where there are no items, nothing is counted
pub none_counted : (shelf : ShelfContent) (counts : List ℕ) → shelf.items ≡ empty → length counts ≡ 4096 → KeysAreCounted shelf counts counts
none_counted shelf counts none many = record {
  many = many;
  counted = λ hash_of fits n below. let zero_keys = keys_none hash_of n shelf.items none in omega (arith, zero_keys);
}
