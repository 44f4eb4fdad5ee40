-- How many items an index has.
use Rattle.mc_shelf.proofs.Common.{[], ◌+◌, ◌-◌, ◌∙◌, ◌∷◌, ◌≡◌, ◌≤◌, ap, arith, cond, empty_of_len, entries, EntriesAreKeyed, Entry, EntryMap, EntryState, find, get, get-entries, is_some}
use Rattle.mc_shelf.proofs.Common.{Items, items_in, len, len-empty, len-entries, len-remove, List, nat_list_cmp_total, none-some, refl, remove, Some, StandsIn, suc, sym, zero, ℕ}
use Rattle.mc_shelf.proofs.KeyLemmas.{order}
use Rattle.mc_shelf.proofs.LabelLemmas.{same_itself}
use Rattle.mc_shelf.proofs.KeyMapLemmas.{item_there, keyed-remove, items-remove, items-empty}

-- one that has entries has a first one
some_entry : (m : EntryMap) (es : List (List ℕ × EntryState)) → entries m ≡ es → (n : ℕ) → len m ≡ suc n → (at : List ℕ) × (e : EntryState) × (get m at ≡ Some e)
some_entry m [] is n more = absurd (let none : len m ≡ 0 = len-entries m ∙ ap (λ (es : List (List ℕ × EntryState)). Rattle.std.proofs.Common.length es) is in omega (arith, none, more))
some_entry m (p ∷ es) is n more = (p.0, p.1, get-entries m p.0 ∙ ap (find order p.0) is ∙ ap (λ b. cond b (Some p.1) (find order p.0 es)) (same_itself p.0))

some_len : (items : Items) (key : List ℕ) (item : Entry) → get items key ≡ Some item → 1 ≤ len items
some_len items key item is = elim (len items) as (λ k. len items ≡ k → 1 ≤ k) [
  | zero ↦ λ none. absurd (none-some item (sym (Rattle.std.specs.FinMap.get-empty order key) ∙ ap (λ (i : Items). get i key) (sym (empty_of_len items none)) ∙ is))
  | suc k ↦ λ some. omega arith
] refl

-- where an item goes there is one less
pub one_less : (old new : Items) (key : List ℕ) (item : Entry) → get old key ≡ Some item → new ≡ remove old key → len old ≡ len new + 1
one_less old new key item there is =
    let gone : len new ≡ len old - 1 = ap (λ (i : Items). len i) is ∙ len-remove nat_list_cmp_total old key ∙ ap (λ o. cond (is_some o) (len old - 1) (len old)) there in
    omega (arith, gone, some_len old key item there)

pub len_items : (n : ℕ) (m : EntryMap) → EntriesAreKeyed m → len m ≡ n → len (items_in m) ≡ n
len_items zero m keyed is = ap (λ (k : EntryMap). len (items_in k)) (empty_of_len m is) ∙ ap (λ (i : Items). len i) items-empty ∙ len-empty order Entry
len_items (suc n) m keyed is =
    let first = some_entry m (entries m) refl n is in
    let e = first.1 in
    let there : StandsIn m e = ap (get m) (sym (keyed.labelled first.0 e first.2)) ∙ first.2 in
    let item : get (items_in m) e.key ≡ Some e.item = item_there m keyed e.hash e.key e there in
    let fewer : len (remove m (e.hash ∷ e.key)) ≡ n =
    len-remove nat_list_cmp_total m (e.hash ∷ e.key) ∙ (ap (λ o. cond (is_some o) (len m - 1) (len m)) there ∙ (let less : len m - 1 ≡ n = omega (arith, is) in less)) in
    let rest : len (items_in (remove m (e.hash ∷ e.key))) ≡ n = len_items n (remove m (e.hash ∷ e.key)) (keyed-remove m keyed e there) fewer in
    let same : len (remove (items_in m) e.key) ≡ n = ap (λ (i : Items). len i) (sym (items-remove m keyed e there)) ∙ rest in
    let gone : len (remove (items_in m) e.key) ≡ len (items_in m) - 1 = len-remove nat_list_cmp_total (items_in m) e.key ∙ ap (λ o. cond (is_some o) (len (items_in m) - 1) (len (items_in m))) item in
    let some_there : 1 ≤ len (items_in m) = some_len (items_in m) e.key e.item item in
    omega (arith, same, gone, some_there)
