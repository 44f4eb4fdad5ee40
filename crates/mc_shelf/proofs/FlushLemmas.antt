-- What a purge of one shelf, and a flush of all, make of the state that they are parts of.
use Rattle.mc_shelf.proofs.Common.{[], ⊎_elim, ◌++◌, ◌+◌, ◌<◌, ◌||◌, ◌∙◌, ◌∷◌, ◌≡◌, ◌≢◌, ◌≤◌, ◌⊎◌, alive, ap, ArePartsOf, arith, Bool, cases_order, cond, count-empty, count-parted, count_in}
use Rattle.mc_shelf.proofs.Common.{count_of, DeskState, drop, Entry, eq-eqb, eqb, eqb-true, false, flushed, get, get-empty, GivesFor, GoesTo, inl, inr, is_dead, is_some, IsClass, IsDeskOf}
use Rattle.mc_shelf.proofs.Common.{IsPurged, IsShelfOf, Items, le-ltb, length, length-set, List, living, lt-ltb, ltb, moment_named, ne_eqb, None, NoneIsDead, not, Option, or_from, or_left}
use Rattle.mc_shelf.proofs.Common.{or_right, out_of, Plain, refl, retain_keys, shelf_of, ShelfContent, ShelfState, slice_get_within, slice_set, Some, subst, suc, sym, take, take-append_seam}
use Rattle.mc_shelf.proofs.Common.{true, true≢false, ℕ}
use Rattle.std.proofs.Common.{slice_get}
use Rattle.std.proofs.Math.Bool.{or-false}
use Rattle.mc_protocol.specs.Purge.{purged}
use Rattle.mc_shelf.specs.Sweeps.{AreOut}
use Rattle.mc_shelf.specs.Unions.{IsFlushed, left_of_flush}
use Rattle.mc_shelf.proofs.KeyLemmas.{order, same_maps, get_kept}
use Rattle.mc_shelf.proofs.PartLemmas.{parted, own_items, shelf_kept, put_cases}
use Rattle.mc_shelf.proofs.SweepLemmas.{get_living}
use Rattle.std.specs.FinMap as maps

-- where none of its items is dead, purging a shelf's part changes nothing
pub nothing_purged : {hash_of : List ℕ → ℕ} {count at : ℕ} {state : Plain} {shelf : ShelfContent} (now : ℕ) → IsShelfOf hash_of count state at shelf
    → NoneIsDead now shelf.cut shelf.items → purged (λ key. eqb (shelf_of hash_of count key) at) now state ≡ state
nothing_purged {hash_of} {count} {at} {state} {shelf} now fits lives =
    let mine : List ℕ → Bool = λ q. eqb (shelf_of hash_of count q) at in
    let stays : (q : List ℕ) → mine q ≡ true → (o : Option Entry) → get state.items q ≡ o → cond (is_some (alive state.cut now o)) o None ≡ o =
    λ q is o. elim o as (λ o. get state.items q ≡ o → cond (is_some (alive state.cut now o)) o None ≡ o) [
      | None ↦ λ e. refl
      | Some item ↦ λ e.
          let stands = lives q item (fits.items q (eqb-true (shelf_of hash_of count q) at is) ∙ e) in
          ap (λ b. cond (is_some (cond b None (Some item))) (Some item) None) (ap (λ cut. is_dead item.expiry item.updated cut now) (sym fits.cut) ∙ stands)
    ] in
    ap (λ (m : Items). record state { items = m })
    (same_maps _ state.items (λ q.
    get_kept state.items (λ q. not (mine q) || is_some (alive state.cut now (get state.items q))) q
    ∙ elim (mine q) as (λ b. mine q ≡ b → cond (not b || is_some (alive state.cut now (get state.items q))) (get state.items q) None ≡ get state.items q) [
      | true ↦ λ is. stays q is (get state.items q) refl
      | false ↦ λ is. refl
    ] refl))

hash_kept : (kept : Bool) (o : Option ℕ) (stored : ℕ) → cond kept o None ≡ Some stored → o ≡ Some stored
hash_kept true o stored found = found
hash_kept false o stored found = cc

module _ {hash_of : List ℕ → ℕ} {count at : ℕ} {state : Plain} {shelf : ShelfContent} {desk : DeskState}
    (fits : IsShelfOf hash_of count state at shelf) (account : IsDeskOf state desk) where
  abbrev mine : List ℕ → Bool
  mine q = eqb (shelf_of hash_of count q) at

  abbrev rest : Items
  rest = retain_keys state.items (λ q. not (mine q))

  split : (class : ℕ) → count_of state.items class ≡ count_of shelf.items class + count_of rest class
  split = parted state.items shelf.items rest mine (own_items fits) (get_kept state.items (λ q. not (mine q)))

  pub part_out : AreOut shelf desk
  part_out class is = omega (arith, split class, account.out class is)

  module _ {now : ℕ} {shelf' : ShelfContent} {desk' : DeskState} (drops : IsPurged now shelf shelf') (gives : GivesFor shelf.items shelf'.items desk desk') where
    abbrev new : Plain
    new = purged mine now state

    abbrev at_key : Bool → List ℕ → Option Entry
    at_key here q = cond (not here || is_some (alive state.cut now (get state.items q))) (get state.items q) None

    get_new : (q : List ℕ) → get new.items q ≡ at_key (mine q) q
    get_new q = get_kept state.items (λ q. not (mine q) || is_some (alive state.cut now (get state.items q))) q

    other_new : (q : List ℕ) → shelf_of hash_of count q ≢ at → get new.items q ≡ get state.items q
    other_new q other = get_new q ∙ ap (λ b. at_key b q) (ne_eqb (shelf_of hash_of count q) at other)

    own : IsShelfOf hash_of count new at shelf'
    own =
        shelf_kept fits (λ o. cond (is_some (alive state.cut now o)) o None) refl (drops.greatest ∙ fits.greatest) (drops.cut ∙ fits.cut)
        (λ q.
        ap (λ (m : Items). get m q) drops.items ∙ get_kept shelf.items (λ q. is_some (alive shelf.cut now (get shelf.items q))) q
        ∙ ap (λ c. cond (is_some (alive c now (get shelf.items q))) (get shelf.items q) None) fits.cut)
        (λ q is. get_new q ∙ ap (λ b. at_key b q) (eq-eqb (shelf_of hash_of count q) at is))
        (λ q stored found. hash_kept (is_some (get shelf'.items q)) (get shelf.hashes q) stored (sym (drops.hashes q) ∙ found))

    rest_new : (q : List ℕ) → get rest q ≡ cond (not (mine q)) (get new.items q) None
    rest_new q =
        get_kept state.items (λ q. not (mine q)) q
        ∙ elim (mine q) as (λ b. mine q ≡ b → cond (not b) (get state.items q) None ≡ cond (not b) (get new.items q) None) [
          | true ↦ λ h. refl
          | false ↦ λ h. sym (other_new q (λ same. true≢false (sym (eq-eqb (shelf_of hash_of count q) at same) ∙ h)))
        ] refl

    pub goes_purged : GoesTo hash_of count at state new shelf' desk'
    goes_purged = record {
      greatest = refl;
      limit = refl;
      own = own;
      account = record {
        next_unique = gives.next_unique ∙ account.next_unique;
        limit = gives.limit ∙ account.limit;
        pages = gives.pages ∙ account.pages;
        out = λ class is.
            let after = parted new.items shelf'.items rest mine (own_items own) rest_new class in
            omega (arith, split class, after, account.out class is, gives.out class is);
      };
      others = λ k still other part. record {
        greatest = part.greatest;
        cut = part.cut;
        items = λ q is. part.items q is ∙ sym (other_new q (λ same. other (sym is ∙ same)));
        apart = part.apart;
        hashes = part.hashes;
      };
    }

-- ---- a flush

-- what stands after it under a key
get_flushed : (delay now : ℕ) (state : Plain) (q : List ℕ) → get (flushed delay state now).items q ≡ left_of_flush delay now state.cut (get state.items q)
get_flushed delay now state q =
    elim (eqb delay 0) as
    (λ b. get
    (cond b (record state { items = maps.empty; cut = None })
    (record state { items = living state.items state.cut now; cut = Some (moment_named delay now) })).items q ≡ cond b None (alive state.cut now (get state.items q))) [
      | true ↦ get-empty order q
      | false ↦ get_living state.items state.cut now q
    ]

none_left : (delay now : ℕ) (cut : Option ℕ) → left_of_flush delay now cut None ≡ None
none_left delay now cut = elim (eqb delay 0) as (λ b. cond b None (alive cut now None) ≡ None) [ true ↦ refl | false ↦ refl ]

-- it changes the items and the cut alone
is_after : (delay now : ℕ) (state : Plain) → flushed delay state now ≡ record state { items = (flushed delay state now).items; cut = cond (eqb delay 0) None (Some (moment_named delay now)) }
is_after delay now state =
    let once : Plain = record state { items = maps.empty; cut = None } in
    let later : Plain = record state { items = living state.items state.cut now; cut = Some (moment_named delay now) } in
    elim (eqb delay 0) as (λ b. cond b once later ≡ record state { items = (cond b once later).items; cut = cond b None (Some (moment_named delay now)) }) [ true ↦ refl | false ↦ refl ]

-- the shelves below a place and the one at it are those below the next
below_next : (n at : ℕ) → ltb n (at + 1) ≡ ltb n at || eqb n at
below_next n at = elim (cases_order n at) [
  | inl same ↦ lt-ltb n (at + 1) (omega (arith, same)) ∙ sym (or_right (ltb n at) (eqb n at) (eq-eqb n at same))
  | inr (inl below) ↦ lt-ltb n (at + 1) (omega (arith, below)) ∙ sym (or_left (ltb n at) (eqb n at) (lt-ltb n at below))
  | inr (inr above) ↦ le-ltb n (at + 1) (omega (arith, above)) ∙ sym (or_from (ltb n at) (eqb n at) (le-ltb n at (omega (arith, above))) (ne_eqb n at (λ same. omega (arith, same, above))))
]

-- an item of the shelf at a place, and one of a shelf below it, are items of the shelves below the next place
module _ (o : Option Entry) where
  is_own : (own below next : Bool) → next ≡ below || own → cond own o None ≡ cond own (cond next o None) None
  is_own true true next e = ap (λ b. cond b o None) (sym e)
  is_own true false next e = ap (λ b. cond b o None) (sym e)
  is_own false below next e = refl

  is_below : (own below next : Bool) → next ≡ below || own → (own ≡ true → below ≡ false) → cond below o None ≡ cond (not own) (cond next o None) None
  is_below true below next e apart = ap (λ b. cond b o None) (apart refl)
  is_below false true next e apart = ap (λ b. cond b o None) (sym e)
  is_below false false next e apart = ap (λ b. cond b o None) (sym e)

-- a shelf that was cleared or purged, and then cut
pub is_flushed : {delay now : ℕ} {old swept new : ShelfContent} {cut : Option ℕ} → cut ≡ cond (eqb delay 0) None (Some (moment_named delay now)) → new ≡ record swept { cut = cut }
    → ((delay ≡ 0) × (swept ≡ record old { items = maps.empty; hashes = maps.empty })) ⊎ ((delay ≢ 0) × IsPurged now old swept) → IsFlushed delay now old new
is_flushed {delay} {now} {old} {swept} {new} {cut} cut_is new_is (inl h) = record {
  greatest = ap (λ (s : ShelfContent). s.greatest) new_is ∙ ap (λ (s : ShelfContent). s.greatest) h.1;
  cut = ap (λ (s : ShelfContent). s.cut) new_is ∙ cut_is;
  items = λ q.
      ap (λ (s : ShelfContent). get s.items q) new_is ∙ ap (λ (s : ShelfContent). get s.items q) h.1 ∙ get-empty order q
      ∙ ap (λ b. cond b None (alive old.cut now (get old.items q))) (sym (eq-eqb delay 0 h.0));
  hashes = λ q stored found.
      let gone : get swept.hashes q ≡ None = ap (λ (s : ShelfContent). get s.hashes q) h.1 ∙ get-empty order q in
      let there : get swept.hashes q ≡ Some stored = sym (ap (λ (s : ShelfContent). get s.hashes q) new_is) ∙ found in
      cc;
}
is_flushed {delay} {now} {old} {swept} {new} {cut} cut_is new_is (inr h) = record {
  greatest = ap (λ (s : ShelfContent). s.greatest) new_is ∙ h.1.greatest;
  cut = ap (λ (s : ShelfContent). s.cut) new_is ∙ cut_is;
  items = λ q.
      ap (λ (s : ShelfContent). get s.items q) new_is ∙ ap (λ (m : Items). get m q) h.1.items
      ∙ get_living old.items old.cut now q
      ∙ ap (λ b. cond b None (alive old.cut now (get old.items q))) (sym (ne_eqb delay 0 h.0));
  hashes = λ q stored found. hash_kept (is_some (get swept.items q)) (get old.hashes q) stored (sym (h.1.hashes q) ∙ sym (ap (λ (s : ShelfContent). get s.hashes q) new_is) ∙ found);
}

-- the items of the shelves below a place
abbrev pub below : (List ℕ → ℕ) → ℕ → Items → Items
below place at items = retain_keys items (λ q. ltb (place q) at)

-- The shelves below a place are flushed, and the others are not yet.
pub record AreFlushedTo (hash_of : List ℕ → ℕ) (count delay now : ℕ) (state : Plain) (at : ℕ) (list : List ShelfState) (desk : DeskState) : Type 0 where
  pub number : length list ≡ count
  pub some_shelf : 0 < count
  pub each : (k : ℕ) (shelf : ShelfState) → slice_get list k ≡ Some shelf → IsShelfOf hash_of count (cond (ltb k at) (flushed delay state now) state) k shelf.content
  pub next_unique : desk.next_unique ≡ state.next_unique
  pub limit : desk.slab.limit ≡ state.limit
  pub pages : desk.slab.pages ≡ state.pages
  pub out : (class : ℕ) → IsClass class
      → out_of desk.slab class + count_of (below (shelf_of hash_of count) at state.items) class ≡ count_of state.items class + count_of
      (below (shelf_of hash_of count) at (flushed delay state now).items) class

module _ (hash_of : List ℕ → ℕ) (count delay now : ℕ) (state : Plain) where
  abbrev place : List ℕ → ℕ
  place = shelf_of hash_of count

  abbrev after : Plain
  after = flushed delay state now

  none_below : (items : Items) → below place 0 items ≡ maps.empty
  none_below items =
      same_maps (below place 0 items) maps.empty (λ q. get_kept items (λ q. ltb (place q) 0) q ∙ ap (λ b. cond b (get items q) None) (le-ltb (place q) 0 (omega arith)) ∙ sym (get-empty order q))

  all_below : (at : ℕ) → 0 < count → count ≤ at → (items : Items) → below place at items ≡ items
  all_below at some past items =
      same_maps (below place at items) items (λ q. get_kept items (λ q. ltb (place q) at) q ∙ ap (λ b. cond b (get items q) None) (lt-ltb (place q) at (omega (arith, some, past))))

  pub flushed_none : {list : List ShelfState} {desk : DeskState} → ArePartsOf hash_of state list count desk → AreFlushedTo hash_of count delay now state 0 list desk
  flushed_none parts = record {
    number = parts.number;
    some_shelf = parts.some_shelf;
    each = λ k shelf there. subst (λ b. IsShelfOf hash_of count (cond b after state) k shelf.content) (sym (le-ltb k 0 (omega arith))) (parts.each k shelf there);
    next_unique = parts.account.next_unique;
    limit = parts.account.limit;
    pages = parts.account.pages;
    out = λ class is.
        (λ i. parts.account.out class is i + count_of (none_below state.items i) class) ∙ (λ i. count_of state.items class + count_of (sym (none_below after.items) i) class);
  }

  -- the items of the shelves below the next place are those of the shelf here, and those below
  more_below : (at : ℕ) → {s : Plain} {part : ShelfContent} → IsShelfOf hash_of count s at part → (class : ℕ)
      → count_of (below place (at + 1) s.items) class ≡ count_of part.items class + count_of (below place at s.items) class
  more_below at {s} {part} is =
      parted (below place (at + 1) s.items) part.items (below place at s.items) (λ q. eqb (place q) at)
      (λ q.
      own_items is q ∙ is_own (get s.items q) (eqb (place q) at) (ltb (place q) at) (ltb (place q) (at + 1)) (below_next (place q) at)
      ∙ ap (λ o. cond (eqb (place q) at) o None) (sym (get_kept s.items (λ q. ltb (place q) (at + 1)) q)))
      (λ q.
      get_kept s.items (λ q. ltb (place q) at) q
      ∙ is_below (get s.items q) (eqb (place q) at) (ltb (place q) at) (ltb (place q) (at + 1)) (below_next (place q) at) (λ same. le-ltb (place q) at (omega (arith, eqb-true (place q) at same)))
      ∙ ap (λ o. cond (not (eqb (place q) at)) o None) (sym (get_kept s.items (λ q. ltb (place q) (at + 1)) q)))

  -- the items of all shelves have the chunks of all items
  counted_from : 0 < count → (class at : ℕ) (rest : List ShelfState) → at + length rest ≡ count
      → ((k : ℕ) (shelf : ShelfState) → slice_get rest k ≡ Some shelf → IsShelfOf hash_of count state (at + k) shelf.content)
      → count_of (below place at state.items) class + count_in rest class ≡ count_of state.items class
  counted_from some class at [] long each =
      let all : count_of (below place at state.items) class ≡ count_of state.items class = ap (λ (m : Items). count_of m class) (all_below at some (omega (arith, long)) state.items) in
      omega (arith, all)
  counted_from some class at (shelf ∷ rest) long each =
      let here : IsShelfOf hash_of count state at shelf.content = subst (λ n. IsShelfOf hash_of count state n shelf.content) (omega arith) (each 0 shelf refl) in
      let one = more_below at here class in
      let behind = counted_from some class (at + 1) rest (omega (arith, long))
      (λ k s there. subst (λ n. IsShelfOf hash_of count state n s.content) (omega arith) (each (suc k) s there)) in
      omega (arith, one, behind)

  pub counted_all : {list : List ShelfState} {desk : DeskState} → ArePartsOf hash_of state list count desk
      → (class : ℕ) → IsClass class → out_of desk.slab class ≡ count_in list class
  counted_all {list} parts class is =
      let all = counted_from parts.some_shelf class 0 list (omega (arith, parts.number))
      (λ k shelf there. (let same : k ≡ 0 + k = omega arith in subst (λ n. IsShelfOf hash_of count state n shelf.content) same (parts.each k shelf there))) in
      let none : count_of (below place 0 state.items) class ≡ 0 = ap (λ (m : Items). count_of m class) (none_below state.items) ∙ count-empty class in
      omega (arith, all, none, parts.account.out class is)

  -- one shelf more is flushed
  module _ {at : ℕ} {list : List ShelfState} {desk : DeskState} {shelf : ShelfState}
      (swept : AreFlushedTo hash_of count delay now state at list desk) (here : slice_get list at ≡ Some shelf) where
    fits : IsShelfOf hash_of count state at shelf.content
    fits = subst (λ b. IsShelfOf hash_of count (cond b after state) at shelf.content) (le-ltb at at (omega arith)) (swept.each at shelf here)

    pub out_before : AreOut shelf.content desk
    out_before class is =
        let all = count-parted class state.items (λ q. ltb (place q) (at + 1)) in
        omega (arith, all, more_below at fits class, swept.out class is)

    module _ {desk' : DeskState} (shelf' : ShelfState) (flushes : IsFlushed delay now shelf.content shelf'.content) (gives : GivesFor shelf.content.items shelf'.content.items desk desk') where
      fits_after : IsShelfOf hash_of count after at shelf'.content
      fits_after =
          shelf_kept fits (left_of_flush delay now state.cut) (none_left delay now state.cut)
          (flushes.greatest ∙ fits.greatest ∙ ap (λ (s : Plain). s.greatest) (sym (is_after delay now state))) (flushes.cut ∙ ap (λ (s : Plain). s.cut) (sym (is_after delay now state)))
          (λ q. flushes.items q ∙ ap (λ c. left_of_flush delay now c (get shelf.content.items q)) fits.cut)
          (λ q is. get_flushed delay now state q)
          flushes.hashes

      pub flushed_more : AreFlushedTo hash_of count delay now state (at + 1) (slice_set list at shelf') desk'
      flushed_more = record {
        number = length-set list at shelf' ∙ swept.number;
        some_shelf = swept.some_shelf;
        each = λ k s there.
            ⊎_elim
            (λ h. subst (λ (p : ℕ × ShelfState). IsShelfOf hash_of count (cond (ltb p.0 (at + 1)) after state) p.0 p.1.content) (λ i. (sym h.0 i, sym h.1 i))
            (subst (λ b. IsShelfOf hash_of count (cond b after state) at shelf'.content) (sym (lt-ltb at (at + 1) (omega arith))) fits_after))
            (λ h. subst (λ b. IsShelfOf hash_of count (cond b after state) k s.content) (sym (below_next k at ∙ ap (λ b. ltb k at || b) (ne_eqb k at h.0) ∙ or-false (ltb k at))) (swept.each k s h.1))
            (put_cases list at shelf' k s there);
        next_unique = gives.next_unique ∙ swept.next_unique;
        limit = gives.limit ∙ swept.limit;
        pages = gives.pages ∙ swept.pages;
        out = λ class is. omega (arith, more_below at fits class, more_below at fits_after class, swept.out class is, gives.out class is);
      }

  pub flushed_all : {at : ℕ} {list : List ShelfState} {desk : DeskState} → count ≤ at → AreFlushedTo hash_of count delay now state at list desk → ArePartsOf hash_of after list count desk
  flushed_all {at} {list} past swept = record {
    number = swept.number;
    some_shelf = swept.some_shelf;
    each = λ k shelf there. subst (λ b. IsShelfOf hash_of count (cond b after state) k shelf.content)
        (lt-ltb k at (omega (arith, past, swept.number, slice_get_within list k shelf there))) (swept.each k shelf there);
    account = record {
      next_unique = swept.next_unique ∙ ap (λ (s : Plain). s.next_unique) (sym (is_after delay now state));
      limit = swept.limit ∙ ap (λ (s : Plain). s.limit) (sym (is_after delay now state));
      pages = swept.pages ∙ ap (λ (s : Plain). s.pages) (sym (is_after delay now state));
      out = λ class is.
          let before : count_of (below place at state.items) class ≡ count_of state.items class = ap (λ (m : Items). count_of m class) (all_below at swept.some_shelf past state.items) in
          let now_all : count_of (below place at after.items) class ≡ count_of after.items class = ap (λ (m : Items). count_of m class) (all_below at swept.some_shelf past after.items) in
          omega (arith, before, now_all, swept.out class is);
    };
  }

-- the shelves of a flush are written back, where they stood
pub flushed_back : {hash_of : List ℕ → ℕ} {state : Plain} {new : List ShelfState} {count len : ℕ} {desk : DeskState} (old : List ShelfState) → len ≡ count
    → ArePartsOf hash_of state new count desk → ArePartsOf hash_of state (take len (new ++ drop (length new) old)) count desk
flushed_back {hash_of} {state} {new} {count} {len} {desk} old all parts =
    subst (λ (l : List ShelfState). ArePartsOf hash_of state l count desk)
    (sym (ap (λ n. take n (new ++ drop (length new) old)) (all ∙ sym parts.number) ∙ take-append_seam new (drop (length new) old))) parts

-- the greatest charge and the limit of pages stay
pub flushed_greatest : (delay now : ℕ) (state : Plain) → (flushed delay state now).greatest ≡ state.greatest
flushed_greatest delay now state = ap (λ (s : Plain). s.greatest) (is_after delay now state)

pub flushed_limit : (delay now : ℕ) (state : Plain) → (flushed delay state now).limit ≡ state.limit
flushed_limit delay now state = ap (λ (s : Plain). s.limit) (is_after delay now state)
