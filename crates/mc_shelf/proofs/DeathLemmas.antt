-- The soonest expiry and write of items, as one comes, changes or goes.
use Rattle.mc_shelf.proofs.Common.{[], ◌∙◌, ◌∷◌, ◌≡◌, ap, arith, cells, cond_both, count, DieNoSooner, DiesNoSooner, empty, Entry, EntryState, filled, from_entries, get, get-empty}
use Rattle.mc_shelf.proofs.Common.{get-insert, get-remove, hash_in, hashes_in, hashes_of, IndexState, insert, is_eq, ItemIsChanged, Items, items_in, items_of, key_in, List}
use Rattle.mc_shelf.proofs.Common.{nat_list_cmp_total, None, none-some, Option, refl, remove, rows, same_Some, Some, Soonest, subst, sym, ℕ}
use Rattle.mc_shelf.proofs.KeyLemmas.{order}
use Rattle.mc_shelf.proofs.KeyMapLemmas.{hashes-empty, items-empty}

-- of no items anything is said
pub sooner_none : (soonest : Soonest) (items : Items) → items ≡ empty → DieNoSooner soonest items
sooner_none soonest items is key item found = absurd (none-some item (sym (ap (λ (m : Items). get m key) is ∙ get-empty order key) ∙ found))

-- an item comes under a key, or is changed
pub sooner_insert : (a b : Soonest) (old new : Items) (key : List ℕ) (item : Entry) → new ≡ insert old key item → DieNoSooner a old
    → ((other : Entry) → DiesNoSooner a other → DiesNoSooner b other) → DiesNoSooner b item → DieNoSooner b new
sooner_insert a b old new key item is held others one at found there =
    cond_both (is_eq (order at key)) (Some item) (get old at) (λ o. o ≡ Some found → DiesNoSooner b found)
    (λ _ e. subst (DiesNoSooner b) (same_Some item found e) one) (λ _ e. others found (held at found e)) (sym (ap (λ (m : Items). get m at) is ∙ get-insert nat_list_cmp_total old key item at) ∙ there)

pub sooner_changed : (a b : Soonest) {old new : IndexState EntryState} {key : List ℕ} {item : Entry} → ItemIsChanged old new key item → DieNoSooner a (items_of old)
    → ((other : Entry) → DiesNoSooner a other → DiesNoSooner b other) → DiesNoSooner b item → DieNoSooner b (items_of new)
sooner_changed a b {old} {new} {key} {item} is = sooner_insert a b (items_of old) (items_of new) key item is.items

-- one goes
pub sooner_remove : (a : Soonest) (old new : Items) (key : List ℕ) → new ≡ remove old key → DieNoSooner a old → DieNoSooner a new
sooner_remove a old new key is held at found there =
    cond_both (is_eq (order at key)) None (get old at) (λ o. o ≡ Some found → DiesNoSooner a found)
    (λ _ e. absurd (none-some found e)) (λ _ e. held at found e) (sym (ap (λ (m : Items). get m at) is ∙ get-remove nat_list_cmp_total old key at) ∙ there)

-- ---- an index of no entries

no_rows : (buckets : List (Option EntryState)) → filled buckets ≡ 0 → rows hash_in key_in buckets ≡ []
no_rows [] none = refl
no_rows (None ∷ buckets) none = no_rows buckets none
no_rows (Some e ∷ buckets) none = absurd (omega (arith, none))

pub no_items : (index : IndexState EntryState) → count index ≡ 0 → items_of index ≡ empty
no_items index none = ap items_in (ap from_entries (no_rows (cells index) none)) ∙ items-empty

pub no_hashes : (index : IndexState EntryState) → count index ≡ 0 → hashes_of index ≡ empty
no_hashes index none = ap hashes_in (ap from_entries (no_rows (cells index) none)) ∙ hashes-empty
