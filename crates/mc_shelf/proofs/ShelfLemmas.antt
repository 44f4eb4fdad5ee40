-- What an edit of its index makes of a shelf's content.
use Rattle.mc_shelf.proofs.Common.{◌∙◌, ◌≡◌, ap, ChunksState, Entry, EntryState, get, Hashes, hashes_of, IndexState, insert, is_some, IsDropped, IsHash, IsKnown, IsPut, ItemIsChanged}
use Rattle.mc_shelf.proofs.Common.{items_of, KeyGoes, List, None, none-some, Option, Place, refl, remove, same_Some, ShelfContent, Some, subst, sym, true≢false, with_item, ℕ}
use Rattle.mc_shelf.specs.Plans.{IsSought, OtherKeysStay}
use Rattle.mc_shelf.proofs.KeyLemmas.{get_gone, get_gone_other, get_put, get_put_other, put_same}

-- the content of a shelf over an index
abbrev pub content_of : (greatest : ℕ) → (cut : Option ℕ) → IndexState EntryState → ShelfContent
content_of greatest cut index = record { greatest = greatest; items = items_of index; hashes = hashes_of index; cut = cut }

pub others_same : (key : List ℕ) (shelf : ShelfContent) → OtherKeysStay key shelf shelf
others_same key shelf = record { greatest = refl; cut = refl; items = λ other apart. refl; hashes = λ other apart. refl }

module _ (key : List ℕ) (own : ℕ) (old : ShelfContent) where
  -- an item that was put over one of the key's
  pub put_there : (mid : ShelfContent) (item : Entry) → OtherKeysStay key old mid → IsHash mid key own → IsPut key own old (with_item None key own item mid) item
  put_there mid item others hash = record {
    item = get_put mid.items key item;
    others = record {
      greatest = others.greatest;
      cut = others.cut;
      items = λ other apart. get_put_other mid.items key other item apart ∙ others.items other apart;
      hashes = others.hashes;
    };
    hash = hash;
  }

  -- an item in the place of the key's
  pub put_over : (item : Entry) → IsHash old key own → IsPut key own old (with_item None key own item old) item
  put_over item has = put_there old item (others_same key old) has

  -- an item that comes under the key with its hash
  pub put_new : (chunks : ChunksState) (item : Entry) → IsPut key own old (with_item (Some chunks) key own item old) item
  put_new chunks item = record {
    item = get_put old.items key item;
    others = record {
      greatest = refl;
      cut = refl;
      items = λ other apart. get_put_other old.items key other item apart;
      hashes = λ other apart. get_put_other old.hashes key other own apart;
    };
    hash = λ stored there. sym (same_Some own stored (sym (get_put old.hashes key own) ∙ there));
  }

module _ (greatest : ℕ) (cut : Option ℕ) (old : ShelfContent) (was : IndexState EntryState) (old_is : content_of greatest cut was ≡ old) (key : List ℕ) (own : ℕ) (new : IndexState EntryState) where
  -- the content after the key's item was changed, and after an entry came under the key
  pub changed_is : (item : Entry) → ItemIsChanged was new key item → content_of greatest cut new ≡ with_item None key own item old
  changed_is item is =
      (λ i. record { greatest = greatest; items = is.items i; hashes = is.hashes i; cut = cut })
      ∙ ap (with_item None key own item) old_is

  -- and where the item was put into others: the hash is the one that the key has
  pub moved_is : (chunks : ChunksState) (item : Entry) → get old.hashes key ≡ Some own → ItemIsChanged was new key item → content_of greatest cut new ≡ with_item (Some chunks) key own item old
  moved_is chunks item has is =
      changed_is item is
      ∙ ap (λ (h : Hashes). record { greatest = old.greatest; items = insert old.items key item; hashes = h; cut = old.cut }) (sym (put_same old.hashes key own has))

  -- the key's item was changed
  pub changed_put : (item : Entry) → IsHash old key own → ItemIsChanged was new key item → IsPut key own old (content_of greatest cut new) item
  changed_put item has is = subst (λ (s : ShelfContent). IsPut key own old s item) (sym (changed_is item is)) (put_over key own old item has)

  -- the key's entry was removed
  pub removed_dropped : (gone : List ℕ) → gone ≡ key → KeyGoes was new gone → IsDropped key own old (content_of greatest cut new)
  removed_dropped gone gone_is is =
      let now_is : content_of greatest cut new ≡ record old { items = remove old.items key; hashes = remove old.hashes key } =
      (λ i. record { greatest = greatest; items = is.items i; hashes = is.hashes i; cut = cut })
      ∙ ap (λ (k : List ℕ). record { greatest = greatest; items = remove (items_of was) k; hashes = remove (hashes_of was) k; cut = cut }) gone_is
      ∙ ap (λ (s : ShelfContent). record s { items = remove s.items key; hashes = remove s.hashes key }) old_is in
      subst (λ (s : ShelfContent). IsDropped key own old s) (sym now_is) (record {
        item = get_gone old.items key;
        others = record { greatest = refl; cut = refl; items = get_gone_other old.items key; hashes = get_gone_other old.hashes key };
        hash = λ stored there. absurd (none-some stored (sym (get_gone old.hashes key) ∙ there));
      })

-- a key that is known, with the place where it was found, is sought there
pub known_sought : (shelf : ShelfContent) (key : List ℕ) (own : ℕ) (found : Option Place) → IsKnown shelf key own found → IsSought shelf key own found
known_sought shelf key own found known = record { hash = known.hash; none = by found (get shelf.items key) known.place }
  where
    by : (f : Option Place) (o : Option Entry) → is_some f ≡ is_some o → f ≡ None → o ≡ None
    by f None e n = refl
    by f (Some item) e n = absurd (true≢false (sym e ∙ ap is_some n))
