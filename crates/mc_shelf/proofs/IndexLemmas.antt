-- What a search in an index and a change of its entries say of the items and the hashes under its keys.
use Rattle.mc_shelf.proofs.Common.{[], ◌++◌, ◌+◌, ◌^◌, ◌∙◌, ◌∷◌, ◌≡◌, ◌≤◌, ap, arith, cases_lt, cells, cond, cond_both, DieNoSooner, DiesNoSooner, empty, entries_of, EntriesAreKeyed, Entry}
use Rattle.mc_shelf.proofs.Common.{entry_at, EntryState, false, find, from_entries, get, get-from_entries, get_or, hash_in, hashes_in, hashes_of, IndexState, inl, inr, insert, IsFoundIn}
use Rattle.mc_shelf.proofs.Common.{IsHashOf, IsKeyAt, IsKeyFound, IsNew, IsPlaceOf, IsUpdated, ItemIsChanged, items_in, items_of, KeepsLower, key_in, KeyComes, KeyGoes, left, List}
use Rattle.mc_shelf.proofs.Common.{nat_list_cmp_total, None, none-some, Option, Place, refl, remove, replicate, rows, same_Some, Some, Soonest, StandsIn, subst, suc, sym, true, zero, ℕ}
use Rattle.mc_shelf.proofs.KeyLemmas.{order, get_gone}
use Rattle.mc_shelf.proofs.LabelLemmas.{own, same, same_itself}
use Rattle.mc_shelf.proofs.KeyMapLemmas.{hash_absent, hash_there, hashes-insert, hashes-remove, hashes-replace, found_hash, item_there, items-insert, items-remove, keyed-insert}
use Rattle.mc_shelf.proofs.KeyMapLemmas.{keyed-remove, labelled-content, not_found}
use Rattle.mc_shelf.proofs.DeathLemmas.{sooner_changed}

-- ---- buckets

-- where a bucket's entry is found under its hash and key, and what is found there
record IsFirst (buckets : List (Option EntryState)) (number : ℕ) (label : List ℕ) : Type 0 where
  at : ℕ
  entry : EntryState
  low : at ≤ number
  there : get_or buckets at None ≡ Some entry
  found : find order label (rows hash_in key_in buckets) ≡ Some entry

first : (buckets : List (Option EntryState)) (number : ℕ) (e : EntryState) → get_or buckets number None ≡ Some e → IsFirst buckets number (e.hash ∷ e.key)
first [] number e is = absurd (none-some e is)
first (None ∷ buckets) zero e is = absurd (none-some e is)
first (None ∷ buckets) (suc number) e is =
    let later = first buckets number e is in
    record { at = suc later.at; entry = later.entry; low = omega (arith, later.low); there = later.there; found = later.found }
first (Some x ∷ buckets) zero e is = record {
  at = zero;
  entry = x;
  low = omega arith;
  there = refl;
  found = ap (λ b. cond b (Some x) (find order (e.hash ∷ e.key) (rows hash_in key_in buckets)))
      (ap (λ (d : EntryState). same (e.hash ∷ e.key) (d.hash ∷ d.key)) (same_Some x e is) ∙ same_itself (e.hash ∷ e.key));
}
first (Some x ∷ buckets) (suc number) e is =
    let later = first buckets number e is in
    elim (same (e.hash ∷ e.key) (x.hash ∷ x.key)) as (λ b. same (e.hash ∷ e.key) (x.hash ∷ x.key) ≡ b → IsFirst (Some x ∷ buckets) (suc number) (e.hash ∷ e.key)) [
      | true ↦ λ t. record { at = zero; entry = x; low = omega arith; there = refl; found = ap (λ b. cond b (Some x) (find order (e.hash ∷ e.key) (rows hash_in key_in buckets))) t }
      | false ↦
          λ f. record {
            at = suc later.at;
            entry = later.entry;
            low = omega (arith, later.low);
            there = later.there;
            found =
                ap (λ b. cond b (Some x) (find order (e.hash ∷ e.key) (rows hash_in key_in buckets))) f ∙ later.found;
          }
    ] refl

-- what is found stands in a bucket
pub in_bucket : (buckets : List (Option EntryState)) (label : List ℕ) (e : EntryState) → find order label (rows hash_in key_in buckets) ≡ Some e → (number : ℕ) × (get_or buckets number None ≡ Some e)
in_bucket [] label e found = absurd (none-some e found)
in_bucket (None ∷ buckets) label e found = let later = in_bucket buckets label e found in (suc later.0, later.1)
in_bucket (Some x ∷ buckets) label e found =
    cond_both (same label (x.hash ∷ x.key)) (Some x) (find order label (rows hash_in key_in buckets)) (λ o. o ≡ Some e → (number : ℕ) × (get_or (Some x ∷ buckets) number None ≡ Some e))
    (λ _ here. (zero, here)) (λ _ there. let later = in_bucket buckets label e there in (suc later.0, later.1)) found

pub numbered : (index : IndexState EntryState) (label : List ℕ) (e : EntryState) → get (entries_of index) label ≡ Some e → (number : ℕ) × (get_or (cells index) number None ≡ Some e)
numbered index label e is = in_bucket (cells index) label e (sym (get-from_entries nat_list_cmp_total (rows hash_in key_in (cells index)) label) ∙ is)

-- the key of each entry has an item, and the entry's hash
module _ (index : IndexState EntryState) (keyed : EntriesAreKeyed (entries_of index)) (number : ℕ) (e : EntryState) (is : get_or (cells index) number None ≡ Some e) where
  its_label : (x : EntryState) × (get (entries_of index) (e.hash ∷ e.key) ≡ Some x)
  its_label =
      let one = first (cells index) number e is in
      (one.entry, get-from_entries nat_list_cmp_total (rows hash_in key_in (cells index)) (e.hash ∷ e.key) ∙ one.found)

  pub item_here : (x : EntryState) × (get (items_of index) e.key ≡ Some x.item)
  item_here = (its_label.0, item_there (entries_of index) keyed e.hash e.key its_label.0 its_label.1)

  pub hash_here : get (hashes_of index) e.key ≡ Some e.hash
  hash_here =
      hash_there (entries_of index) keyed e.hash e.key its_label.0 its_label.1
      ∙ ap (λ q. Some (get_or q 0 0)) (sym (keyed.labelled (e.hash ∷ e.key) its_label.0 its_label.1))

-- ---- an empty index

no_rows : (n : ℕ) → rows hash_in key_in (replicate n None ++ []) ≡ []
no_rows zero = refl
no_rows (suc n) = no_rows n

pub new_empty : (k : ℕ) (index : IndexState EntryState) → IsNew k index → entries_of index ≡ empty
new_empty k index is = ap entries_of is ∙ ap from_entries (no_rows (2 ^ k + 255))

-- ---- a search

module _ (index : IndexState EntryState) (keyed : EntriesAreKeyed (entries_of index)) (hash : ℕ) (key : List ℕ) where
  pub key_at : (place : Place) → IsPlaceOf hash_in key_in index hash key place → IsKeyAt index key place
  key_at place at = record {
    entry = at.entry;
    there = at.there;
    held = own _ keyed (hash ∷ key) at.entry at.held;
    same_key = at.same_key;
    item = item_there _ keyed hash key at.entry at.held;
    hash = hash_there _ keyed hash key at.entry at.held;
  }

  pub key_found : IsHashOf (entries_of index) key hash → (found : Option Place) → IsFoundIn hash_in key_in index hash key found → IsKeyFound index key found
  key_found right None none = not_found _ keyed hash key right none
  key_found right (Some place) at = key_at place at

-- ---- changes

module _ (old new : IndexState EntryState) (keyed : EntriesAreKeyed (entries_of old)) where
  -- an entry comes
  module _ (e : EntryState) (absent : get (items_of old) e.key ≡ None) (is : entries_of new ≡ insert (entries_of old) (e.hash ∷ e.key) e) where
    right : IsHashOf (entries_of old) e.key e.hash
    right stored found = absurd (none-some stored (sym (hash_absent _ keyed e.key absent) ∙ found))

    pub came_keyed : EntriesAreKeyed (entries_of new)
    came_keyed = subst EntriesAreKeyed (sym is) (keyed-insert _ keyed e right)

    pub came : KeyComes old new e
    came = record { items = ap items_in is ∙ items-insert _ keyed e right; hashes = ap hashes_in is ∙ hashes-insert _ keyed e right }

  -- an entry is changed to one of its hash and key
  module _ (e given : EntryState) (held : StandsIn (entries_of old) e) (same_hash : given.hash ≡ e.hash) (same_key : given.key ≡ e.key)
      (is : entries_of new ≡ insert (entries_of old) (e.hash ∷ e.key) given) where
    label : given.hash ∷ given.key ≡ e.hash ∷ e.key
    label i = same_hash i ∷ same_key i

    now : entries_of new ≡ insert (entries_of old) (given.hash ∷ given.key) given
    now = is ∙ ap (λ q. insert (entries_of old) q given) (sym label)

    stood : get (entries_of old) (given.hash ∷ given.key) ≡ Some e
    stood = ap (get (entries_of old)) label ∙ held

    hash_right : IsHashOf (entries_of old) given.key given.hash
    hash_right = found_hash _ keyed given.hash given.key e stood

    pub changed_keyed : EntriesAreKeyed (entries_of new)
    changed_keyed = subst EntriesAreKeyed (sym now) (keyed-insert _ keyed given hash_right)

    pub changed_items : items_of new ≡ insert (items_of old) given.key given.item
    changed_items = ap items_in now ∙ items-insert _ keyed given hash_right

    pub same_hashes : hashes_of new ≡ hashes_of old
    same_hashes = ap hashes_in now ∙ hashes-replace _ keyed e given stood

    pub changed : (key : List ℕ) → e.key ≡ key → new.k ≡ old.k → new.growing ≡ old.growing → new.spare ≡ old.spare → left new ≡ left old → ItemIsChanged old new key given.item
    changed key is_key same_k same_growing spare rest =
        record {
          items = changed_items ∙ ap (λ k. insert (items_of old) k given.item) (same_key ∙ is_key);
          hashes = same_hashes;
          same_k = same_k;
          same_growing = same_growing;
          same_room = spare;
          same_left = rest;
        }

  -- an entry goes
  module _ (e : EntryState) (place : Place) (there : entry_at old place ≡ Some e) (keeps : KeepsLower old new place.number) (is : entries_of new ≡ remove (entries_of old) (e.hash ∷ e.key)) where
    found_in : (index : IndexState EntryState) (label : List ℕ) → get (entries_of index) label ≡ find order label (rows hash_in key_in (cells index))
    found_in index label = get-from_entries nat_list_cmp_total (rows hash_in key_in (cells index)) label

    -- no other has its hash and key, which would be found still
    pub held : StandsIn (entries_of old) e
    held =
        let one = first (cells old) place.number e there in
        let found : get (entries_of old) (e.hash ∷ e.key) ≡ Some one.entry = found_in old (e.hash ∷ e.key) ∙ one.found in
        elim (cases_lt one.at place.number) [
          | inl less ↦
              let still = first (cells new) one.at one.entry (keeps.lower one.at less ∙ one.there) in
              let label = labelled-content hash_in key_in (cells old) (e.hash ∷ e.key) one.entry found in
              absurd (none-some still.entry
              (sym (ap (λ m. get m (e.hash ∷ e.key)) is ∙ get_gone (entries_of old) (e.hash ∷ e.key)) ∙ ap (get (entries_of new)) label
              ∙ found_in new (one.entry.hash ∷ one.entry.key) ∙ still.found))
          | inr behind ↦
              let here : one.at ≡ place.number = omega (arith, one.low, behind) in
              found ∙ sym one.there ∙ ap (λ n. get_or (cells old) n None) here ∙ there
        ]

    pub gone_item : get (items_of old) e.key ≡ Some e.item
    gone_item = item_there _ keyed e.hash e.key e held

    pub gone_keyed : EntriesAreKeyed (entries_of new)
    gone_keyed = subst EntriesAreKeyed (sym is) (keyed-remove _ keyed e held)

    pub gone : KeyGoes old new e.key
    gone = record { items = ap items_in is ∙ items-remove _ keyed e held; hashes = ap hashes_in is ∙ hashes-remove _ keyed e held }

-- the entry of a key becomes one of its hash and key
pub updated : {old shown new : IndexState EntryState} {key : List ℕ} {place : Place} {R : Type 0} {post : EntryState → EntryState × R → Type 0} {answer : R}
    → old ≡ shown → EntriesAreKeyed (entries_of old)
    → (at : IsKeyAt shown key place) (is : IsUpdated hash_in key_in post at.entry place old new answer) {one : EntryState} → is.given ≡ one → one.hash ≡ at.entry.hash → one.key ≡ at.entry.key
    → EntriesAreKeyed (entries_of new) × ItemIsChanged shown new key one.item
updated {old} {shown} {new} {key} view keyed at is {one} becomes same_hash same_key =
    let held = subst (λ (s : IndexState EntryState). StandsIn (entries_of s) at.entry) (sym view) at.held in
    let hashes = ap (λ (e : EntryState). e.hash) becomes ∙ same_hash in
    let keys = ap (λ (e : EntryState). e.key) becomes ∙ same_key in
    let change = changed old new keyed at.entry is.given held hashes keys is.content key at.same_key is.same_k is.same_growing is.same_spare is.same_left in (
      changed_keyed old new keyed at.entry is.given held hashes keys is.content,
      subst (λ (i : Entry). ItemIsChanged shown new key i) (ap (λ (e : EntryState). e.item) becomes) (subst (λ (s : IndexState EntryState). ItemIsChanged s new key is.given.item) view change),
    )

-- the item of a key becomes another, which the soonest expiry and write count
pub rewritten : {old shown new : IndexState EntryState} {key : List ℕ} {place : Place} {R : Type 0} {post : EntryState → EntryState × R → Type 0} {answer : R} (a b : Soonest) (item : Entry)
    → old ≡ shown → EntriesAreKeyed (entries_of old) × DieNoSooner a (items_of old) → (at : IsKeyAt shown key place)
    → ((e : EntryState) → entry_at old place ≡ Some e → IsUpdated hash_in key_in post e place old new answer)
    → ((given : EntryState) → post at.entry (given, answer) → given ≡ record at.entry { item = item })
    → ((other : Entry) → DiesNoSooner a other → DiesNoSooner b other) → DiesNoSooner b item
    → (EntriesAreKeyed (entries_of new) × DieNoSooner b (items_of new)) × ItemIsChanged shown new key item
rewritten {place = place} a b item view held at updates becomes others one =
    let is = updates at.entry (subst (λ (s : IndexState EntryState). entry_at s place ≡ Some at.entry) (sym view) at.there) in
    let up = updated view held.0 at is (becomes is.given is.called) refl refl in
    ((up.0, sooner_changed a b up.1 (subst (λ (s : IndexState EntryState). DieNoSooner a (items_of s)) view held.1) others one), up.1)
