-- How many keys of a map pass a test.
use Rattle.mc_shared.proofs.Words.{◌≡◌, ◌≢◌, ℕ, suc, ◌+◌, ◌-◌, ◌≤◌, Bool, true, false, true≢false, cond, List, [], ◌∷◌, length, Option, Some, None, is_some, refl, sym, ap, ◌∙◌, arith, Less}
use Rattle.mc_shared.proofs.Words.{Equal, Greater, get, len, retain_keys, empty, get-empty, Items, Entry, order, same_maps, get_kept, remove, entries, entries_sorted, entries-from_sorted}
use Rattle.mc_shared.proofs.Words.{from_sorted, get-entries, get-from_sorted, get-remove, is_sorted, len-empty, len-entries, len-remove, none-some, empty_of_len, same_key}
use lib.Dec.{T}
use Rattle.std.specs.Ordering.{is_eq}
use Rattle.std.specs.Cmp.{tied_itself}
use Rattle.std.specs.Cmp.Lexicographic.{nat_list_cmp_total}
use Rattle.std.specs.FinMap.Entries.{where_key, is_sorted-where_key, find-where_key}

-- 1 where an item is there
abbrev pub there : Option Entry → ℕ
there item = cond (is_some item) 1 0

not_tied : (q key : List ℕ) → is_eq (order q key) ≡ false → q ≢ key
not_tied q key apart same = true≢false (sym (ap is_eq (ap (λ (x : List ℕ). order x key) same ∙ tied_itself nat_list_cmp_total key)) ∙ apart)

-- maps that are alike but at one key are alike without it
without_same : (a b : Items) (key : List ℕ) → ((q : List ℕ) → q ≢ key → get a q ≡ get b q) → remove a key ≡ remove b key
without_same a b key same = same_maps _ _ (λ q.
    get-remove nat_list_cmp_total a key q
    ∙ elim (is_eq (order q key)) as (λ t. is_eq (order q key) ≡ t → cond t None (get a q) ≡ cond t None (get b q)) [ true ↦ λ e. refl | false ↦ λ e. same q (not_tied q key e) ] refl
    ∙ sym (get-remove nat_list_cmp_total b key q))

-- where nothing stands under a key, there is nothing to take out
pub nothing_out : (a : Items) (key : List ℕ) → get a key ≡ None → remove a key ≡ a
nothing_out a key none = same_maps _ _ (λ q.
    get-remove nat_list_cmp_total a key q ∙ elim (order q key) as (λ r. order q key ≡ r → cond (is_eq r) None (get a q) ≡ get a q) [
      | Less ↦ λ e. refl
      | Equal ↦ λ e. sym (ap (λ (k : List ℕ). get a k) (same_key q key e) ∙ none)
      | Greater ↦ λ e. refl
    ] refl)

-- one key more, where an item stands under it
len_without : (a : Items) (key : List ℕ) → len a ≡ len (remove a key) + there (get a key)
len_without a key =
    let gone = len-remove nat_list_cmp_total a key in
    elim (get a key) as (λ o. get a key ≡ o → len a ≡ len (remove a key) + there o) [
      | None ↦ λ none. (let same : len (remove a key) ≡ len a = gone ∙ ap (λ o. cond (is_some o) (len a - 1) (len a)) none in omega (arith, same))
      | Some item ↦ λ is.
          let less : len (remove a key) ≡ len a - 1 = gone ∙ ap (λ o. cond (is_some o) (len a - 1) (len a)) is in
          let some : len a ≢ 0 = λ zero. none-some item (sym (ap (λ (m : Items). get m key) (empty_of_len a zero) ∙ get-empty order key) ∙ is) in
          omega (arith, less, some)
    ] refl

-- how many there are, after a change at one key
pub len_change : (a b : Items) (key : List ℕ) → ((q : List ℕ) → q ≢ key → get a q ≡ get b q) → len a + there (get b key) ≡ len b + there (get a key)
len_change a b key same =
    let rests : len (remove a key) ≡ len (remove b key) = ap (λ (m : Items). len m) (without_same a b key same) in
    let of_a = len_without a key in let of_b = len_without b key in omega (arith, rests, of_a, of_b)

module _ (keep : List ℕ → Bool) where
  -- maps that have the same under the keys of a test
  pub kept_same : (a b : Items) → ((key : List ℕ) → keep key ≡ true → get a key ≡ get b key) → retain_keys a keep ≡ retain_keys b keep
  kept_same a b same = same_maps _ _ (λ q.
      get_kept a keep q
      ∙ elim (keep q) as (λ k. keep q ≡ k → cond k (get a q) None ≡ cond k (get b q) None) [ true ↦ λ e. same q e | false ↦ λ e. refl ] refl
      ∙ sym (get_kept b keep q))

  module _ (a b : Items) (key : List ℕ) (same : (q : List ℕ) → q ≢ key → get a q ≡ get b q) where
    -- a change at a key that fails the test
    pub count_other : keep key ≡ false → len (retain_keys a keep) ≡ len (retain_keys b keep)
    count_other fails = ap (λ (m : Items). len m) (kept_same a b (λ q passes. same q (λ e. true≢false (sym passes ∙ ap keep e ∙ fails))))

    -- and at one that passes
    pub count_here : keep key ≡ true → len (retain_keys a keep) + there (get b key) ≡ len (retain_keys b keep) + there (get a key)
    count_here passes =
        let kept : (m : Items) → get (retain_keys m keep) key ≡ get m key = λ m. get_kept m keep key ∙ ap (λ t. cond t (get m key) None) passes in
        let rests : remove (retain_keys a keep) key ≡ remove (retain_keys b keep) key = without_same (retain_keys a keep) (retain_keys b keep) key (λ q apart.
        get_kept a keep q ∙ ap (λ o. cond (keep q) o None) (same q apart) ∙ sym (get_kept b keep q)) in
        let equal : len (remove (retain_keys a keep) key) ≡ len (remove (retain_keys b keep) key) = ap (λ (m : Items). len m) rests in
        let of_a = len_without (retain_keys a keep) key in
        let of_b = len_without (retain_keys b keep) key in
        let at_a : there (get (retain_keys a keep) key) ≡ there (get a key) = ap there (kept a) in
        let at_b : there (get (retain_keys b keep) key) ≡ there (get b key) = ap there (kept b) in
        omega (arith, equal, of_a, of_b, at_a, at_b)

  -- none passes where nothing stands under any key that does
  pub count_none : (a : Items) → ((key : List ℕ) → keep key ≡ true → get a key ≡ None) → len (retain_keys a keep) ≡ 0
  count_none a none =
      ap (λ (m : Items). len m)
      (same_maps (retain_keys a keep) empty
      (λ q. get_kept a keep q ∙ elim (keep q) as (λ k. keep q ≡ k → cond k (get a q) None ≡ None) [ true ↦ λ e. none q e | false ↦ λ e. refl ] refl ∙ sym (get-empty order q)))
      ∙ len-empty order Entry

  pub none_counted : (a : Items) → len (retain_keys a keep) ≡ 0 → (key : List ℕ) → keep key ≡ true → get a key ≡ None
  none_counted a zero key passes =
      sym (get_kept a keep key ∙ ap (λ t. cond t (get a key) None) passes)
      ∙ ap (λ (m : Items). get m key) (empty_of_len (retain_keys a keep) zero) ∙ get-empty order key

  -- no more pass than there are
  shorter : (es : List (List ℕ × Entry)) → length (where_key order keep es) ≤ length es
  shorter [] = omega arith
  shorter (e ∷ es) =
      let rest = shorter es in
      elim (keep e.0) as (λ b. length (cond b (e ∷ where_key order keep es) (where_key order keep es)) ≤ suc (length es)) [ true ↦ omega (arith, rest) | false ↦ omega (arith, rest) ]

  entries_kept : (a : Items) → entries (retain_keys a keep) ≡ where_key order keep (entries a)
  entries_kept a =
      let es = where_key order keep (entries a) in
      let sorted : T (is_sorted order es) = is_sorted-where_key order keep (entries a) (entries_sorted a) in
      let alike : (q x : List ℕ) → order q x ≡ Equal → keep x ≡ keep q = λ q x h. ap keep (sym (same_key q x h)) in
      let same : retain_keys a keep ≡ from_sorted es = same_maps _ _ (λ q.
      get_kept a keep q ∙ ap (λ (o : Option Entry). cond (keep q) o None) (get-entries a q)
      ∙ sym (get-from_sorted order es q sorted ∙ find-where_key order keep q (alike q) (entries a))) in
      ap (λ (m : Items). entries m) same ∙ entries-from_sorted order es sorted

  pub count_most : (a : Items) → len (retain_keys a keep) ≤ len a
  count_most a =
      let few = shorter (entries a) in
      let is = len-entries (retain_keys a keep) in
      let all = len-entries a in
      let same : length (entries (retain_keys a keep)) ≡ length (where_key order keep (entries a)) = ap (λ (es : List (List ℕ × Entry)). length es) (entries_kept a) in
      omega (arith, few, is, all, same)
