-- Entries under their hashes and keys in one finite map: what it says of the items and the hashes under the keys alone, and what a
-- change of one entry makes of these.
use Rattle.mc_shelf.proofs.Common.{[], ◌∙◌, ◌∷◌, ◌≡◌, ap, cond, cond_both, content, drop, empty, EntriesAreKeyed, Entry, EntryMap, EntryState, false, false_from_ne_true, find, get}
use Rattle.mc_shelf.proofs.Common.{get-empty, get-from_entries, get-insert, get-remove, get_or, hashes_in, insert, IsHashOf, items_in, List, nat_list_cmp_total, None, none-some, Option}
use Rattle.mc_shelf.proofs.Common.{refl, remove, rows, same_Some, Some, StandsIn, sym, true≢false, ℕ}
use Rattle.mc_shelf.proofs.KeyLemmas.{order, same_maps}
use Rattle.mc_shelf.proofs.LabelLemmas.{same, same_list, same_itself, none_by, own, own_key, same_label, Held, parts_in, held, part_there, no_part, no_entry, part_same}

-- ---- items and hashes under a key

module _ (m : EntryMap) (keyed : EntriesAreKeyed m) where
  -- an entry's item and hash are those under its key
  pub item_there : (hash : ℕ) (key : List ℕ) (e : EntryState) → get m (hash ∷ key) ≡ Some e → get (items_in m) key ≡ Some e.item
  item_there = part_there (λ e. e.item) m keyed

  pub hash_there : (hash : ℕ) (key : List ℕ) (e : EntryState) → get m (hash ∷ key) ≡ Some e → get (hashes_in m) key ≡ Some e.hash
  hash_there = part_there (λ e. e.hash) m keyed

  -- an item, or a hash, under a key is an entry's
  pub item_held : (key : List ℕ) (item : Entry) → get (items_in m) key ≡ Some item → Held (λ e. e.item) m key item
  item_held = held (λ e. e.item) m keyed

  pub hash_held : (key : List ℕ) (hash : ℕ) → get (hashes_in m) key ≡ Some hash → Held (λ e. e.hash) m key hash
  hash_held = held (λ e. e.hash) m keyed

  -- a key that has no item has no entry
  pub no_item_entry : (key : List ℕ) → get (items_in m) key ≡ None → (hash : ℕ) → get m (hash ∷ key) ≡ None
  no_item_entry = no_entry (λ e. e.item) m keyed

  -- items and hashes have the same keys
  pub hash_absent : (key : List ℕ) → get (items_in m) key ≡ None → get (hashes_in m) key ≡ None
  hash_absent key none = no_part (λ e. e.hash) m keyed key (no_item_entry key none)

  -- the hash of an entry that was found is its key's
  pub found_hash : (hash : ℕ) (key : List ℕ) (e : EntryState) → get m (hash ∷ key) ≡ Some e → IsHashOf m key hash
  found_hash hash key e is stored found =
      same_Some stored e.hash (sym found ∙ hash_there hash key e is) ∙ sym (ap (λ q. get_or q 0 0) (keyed.labelled (hash ∷ key) e is))

  -- a search with the key's hash that finds no entry says that the key has no item
  pub not_found : (hash : ℕ) (key : List ℕ) → IsHashOf m key hash → get m (hash ∷ key) ≡ None → get (items_in m) key ≡ None
  not_found hash key right none = no_part (λ e. e.item) m keyed key (no_entry (λ e. e.hash) m keyed key (none_by _ (λ stored is.
      let s = hash_held key stored is in
      none-some s.entry (sym none ∙ ap (λ n. get m (n ∷ key)) (sym (s.same_part ∙ right stored is)) ∙ s.there))))

-- ---- a change of one entry

-- labels of different keys differ
apart : (hash : ℕ) (key : List ℕ) (e : EntryState) → same key e.key ≡ false → same (hash ∷ key) (e.hash ∷ e.key) ≡ false
apart hash key e other = false_from_ne_true (same (hash ∷ key) (e.hash ∷ e.key))
    (λ t. true≢false (sym (ap (λ q. same q e.key) (ap (drop 1) (same_list (hash ∷ key) (e.hash ∷ e.key) t)) ∙ same_itself e.key) ∙ other))

-- where the entries of one key have changed, and no others, so have its parts
part_changed : {X : Type 0} (part : EntryState → X) (m n : EntryMap) → EntriesAreKeyed m → EntriesAreKeyed n → (e : EntryState) (now : Option EntryState) (o : Option X)
    → ((q : List ℕ) → get n q ≡ cond (same q (e.hash ∷ e.key)) now (get m q)) → get (parts_in part n) e.key ≡ o
    → (q : List ℕ) → get (parts_in part n) q ≡ cond (same q e.key) o (get (parts_in part m) q)
part_changed part m n km kn e now o at there q = cond_both (same q e.key) o (get (parts_in part m) q) (λ r. get (parts_in part n) q ≡ r)
    (λ t. ap (get (parts_in part n)) (same_list q e.key t) ∙ there)
    (λ f. part_same part n m kn km q (λ hash. at (hash ∷ q) ∙ ap (λ b. cond b now (get m (hash ∷ q))) (apart hash q e f)))

-- an entry comes whose key has no other hash
module _ (m : EntryMap) (keyed : EntriesAreKeyed m) (e : EntryState) (right : IsHashOf m e.key e.hash) where
  abbrev more : EntryMap
  more = insert m (e.hash ∷ e.key) e

  more_at : (q : List ℕ) → get more q ≡ cond (same q (e.hash ∷ e.key)) (Some e) (get m q)
  more_at q = get-insert nat_list_cmp_total m (e.hash ∷ e.key) e q

  more_there : StandsIn more e
  more_there = more_at (e.hash ∷ e.key) ∙ ap (λ b. cond b (Some e) (get m (e.hash ∷ e.key))) (same_itself (e.hash ∷ e.key))

  -- what stands then is that entry, or stood before
  new_or_old : {P : Type 0} (at : List ℕ) (a : EntryState) → get more at ≡ Some a → (at ≡ e.hash ∷ e.key → a ≡ e → P) → (get m at ≡ Some a → P) → P
  new_or_old {P} at a is new old = cond_both (same at (e.hash ∷ e.key)) (Some e) (get m at) (λ o. o ≡ Some a → P)
      (λ t there. new (same_list at (e.hash ∷ e.key) t) (sym (same_Some e a there))) (λ t there. old there) (sym (more_at at) ∙ is)

  -- what stands then with its key has its hash
  its_hash : (a : EntryState) → StandsIn more a → a.key ≡ e.key → a.hash ≡ e.hash
  its_hash a is keys =
      new_or_old (a.hash ∷ a.key) a is
      (λ _ new. ap (λ (d : EntryState). d.hash) new)
      (λ old. right a.hash (ap (get (hashes_in m)) (sym keys) ∙ hash_there m keyed a.hash a.key a old))

  more_hash : (a b : EntryState) → StandsIn more a → StandsIn more b → a.key ≡ b.key → a.hash ≡ b.hash
  more_hash a b at_a at_b keys =
      new_or_old (a.hash ∷ a.key) a at_a
      (λ _ new. ap (λ (d : EntryState). d.hash) new ∙ sym (its_hash b at_b (sym keys ∙ ap (λ (d : EntryState). d.key) new)))
      (λ old_a. new_or_old (b.hash ∷ b.key) b at_b
      (λ _ new. its_hash a at_a (keys ∙ ap (λ (d : EntryState). d.key) new) ∙ sym (ap (λ (d : EntryState). d.hash) new))
      (λ old_b. keyed.one_hash a b old_a old_b keys))

  pub keyed-insert : EntriesAreKeyed (insert m (e.hash ∷ e.key) e)
  keyed-insert = record {
    labelled = λ at a is. new_or_old at a is (λ q new. q ∙ sym (ap (λ (d : EntryState). d.hash ∷ d.key) new)) (keyed.labelled at a);
    one_hash = more_hash;
  }

  part-insert : {X : Type 0} (part : EntryState → X) → parts_in part more ≡ insert (parts_in part m) e.key (part e)
  part-insert part = same_maps _ _ (λ q.
      part_changed part m more keyed keyed-insert e (Some e) (Some (part e)) more_at (part_there part more keyed-insert e.hash e.key e more_there) q
      ∙ sym (get-insert nat_list_cmp_total (parts_in part m) e.key (part e) q))

  pub items-insert : items_in (insert m (e.hash ∷ e.key) e) ≡ insert (items_in m) e.key e.item
  items-insert = part-insert (λ e. e.item)

  pub hashes-insert : hashes_in (insert m (e.hash ∷ e.key) e) ≡ insert (hashes_in m) e.key e.hash
  hashes-insert = part-insert (λ e. e.hash)

-- an entry goes
module _ (m : EntryMap) (keyed : EntriesAreKeyed m) (e : EntryState) (there : StandsIn m e) where
  abbrev fewer : EntryMap
  fewer = remove m (e.hash ∷ e.key)

  fewer_at : (q : List ℕ) → get fewer q ≡ cond (same q (e.hash ∷ e.key)) None (get m q)
  fewer_at q = get-remove nat_list_cmp_total m (e.hash ∷ e.key) q

  gone : get fewer (e.hash ∷ e.key) ≡ None
  gone = fewer_at (e.hash ∷ e.key) ∙ ap (λ b. cond b None (get m (e.hash ∷ e.key))) (same_itself (e.hash ∷ e.key))

  -- what stands then stood before
  stood : (at : List ℕ) (a : EntryState) → get fewer at ≡ Some a → get m at ≡ Some a
  stood at a is = cond_both (same at (e.hash ∷ e.key)) None (get m at) (λ o. o ≡ Some a → get m at ≡ Some a) (λ _ none. absurd (none-some a none)) (λ _ some. some) (sym (fewer_at at) ∙ is)

  -- with it its key goes, under any hash
  key_gone : (hash : ℕ) → get fewer (hash ∷ e.key) ≡ None
  key_gone hash = none_by _ (λ a is.
      let old : get m (hash ∷ e.key) ≡ Some a = stood (hash ∷ e.key) a is in
      let one : a.hash ∷ a.key ≡ e.hash ∷ e.key = same_label m keyed a e (own m keyed (hash ∷ e.key) a old) there (own_key m keyed hash e.key a old) in
      none-some a (sym gone ∙ ap (get fewer) (sym (keyed.labelled (hash ∷ e.key) a old ∙ one)) ∙ is))

  pub keyed-remove : EntriesAreKeyed (remove m (e.hash ∷ e.key))
  keyed-remove = record {
    labelled = λ at a is. keyed.labelled at a (stood at a is);
    one_hash = λ a b at_a at_b. keyed.one_hash a b (stood (a.hash ∷ a.key) a at_a) (stood (b.hash ∷ b.key) b at_b);
  }

  part-remove : {X : Type 0} (part : EntryState → X) → parts_in part fewer ≡ remove (parts_in part m) e.key
  part-remove part = same_maps _ _ (λ q.
      part_changed part m fewer keyed keyed-remove e None None fewer_at (no_part part fewer keyed-remove e.key key_gone) q
      ∙ sym (get-remove nat_list_cmp_total (parts_in part m) e.key q))

  pub items-remove : items_in (remove m (e.hash ∷ e.key)) ≡ remove (items_in m) e.key
  items-remove = part-remove (λ e. e.item)

  pub hashes-remove : hashes_in (remove m (e.hash ∷ e.key)) ≡ remove (hashes_in m) e.key
  hashes-remove = part-remove (λ e. e.hash)

-- an entry takes the place of one of its hash and key: the hashes stay
pub hashes-replace : (m : EntryMap) → EntriesAreKeyed m → (old new : EntryState) → get m (new.hash ∷ new.key) ≡ Some old → hashes_in (insert m (new.hash ∷ new.key) new) ≡ hashes_in m
hashes-replace m keyed old new there =
    let right : IsHashOf m new.key new.hash = found_hash m keyed new.hash new.key old there in
    let hash : get (hashes_in m) new.key ≡ Some new.hash = hash_there m keyed new.hash new.key old there ∙ ap (λ q. Some (get_or q 0 0)) (sym (keyed.labelled (new.hash ∷ new.key) old there)) in
    hashes-insert m keyed new right ∙ same_maps _ _ (λ q. get-insert nat_list_cmp_total (hashes_in m) new.key new.hash q
    ∙ cond_both (same q new.key) (Some new.hash) (get (hashes_in m) q) (λ o. o ≡ get (hashes_in m) q) (λ t. sym (ap (get (hashes_in m)) (same_list q new.key t) ∙ hash)) (λ f. refl))

-- ---- no entry

pub keyed-empty : EntriesAreKeyed empty
keyed-empty = record {
  labelled = λ at e is. absurd (none-some e (sym (get-empty order at) ∙ is));
  one_hash = λ a b at_a at_b keys. absurd (none-some a (sym (get-empty order (a.hash ∷ a.key)) ∙ at_a));
}

part-empty : {X : Type 0} (part : EntryState → X) → parts_in part empty ≡ empty
part-empty part = same_maps _ _ (λ q. no_part part empty keyed-empty q (λ hash. get-empty order (hash ∷ q)) ∙ sym (get-empty order q))

pub items-empty : items_in empty ≡ empty
items-empty = part-empty (λ e. e.item)

pub hashes-empty : hashes_in empty ≡ empty
hashes-empty = part-empty (λ e. e.hash)

-- ---- what a table holds

in_rows : {X : Type 0} (hash_of : X → ℕ) (key_of : X → List ℕ) (cells : List (Option X)) (at : List ℕ) (x : X) → find order at (rows hash_of key_of cells) ≡ Some x → at ≡ hash_of x ∷ key_of x
in_rows hash_of key_of [] at x found = absurd (none-some x found)
in_rows hash_of key_of (None ∷ cells) at x found = in_rows hash_of key_of cells at x found
in_rows hash_of key_of (Some y ∷ cells) at x found =
    cond_both (same at (hash_of y ∷ key_of y)) (Some y) (find order at (rows hash_of key_of cells)) (λ o. o ≡ Some x → at ≡ hash_of x ∷ key_of x)
    (λ t is. same_list at (hash_of y ∷ key_of y) t ∙ ap (λ z. hash_of z ∷ key_of z) (same_Some y x is)) (λ t is. in_rows hash_of key_of cells at x is) found

-- each entry stands under its own hash and key there
pub labelled-content : {X : Type 0} (hash_of : X → ℕ) (key_of : X → List ℕ) (cells : List (Option X)) (at : List ℕ) (x : X) → get (content hash_of key_of cells) at ≡ Some x → at ≡ hash_of x ∷ key_of x
labelled-content hash_of key_of cells at x is = in_rows hash_of key_of cells at x (sym (get-from_entries nat_list_cmp_total (rows hash_of key_of cells) at) ∙ is)
