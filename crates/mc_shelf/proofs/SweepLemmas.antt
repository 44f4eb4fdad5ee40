-- What a sweep over an index drops of a shelf, and gives back to a desk.
use Rattle.mc_shelf.proofs.Common.{[], ◌++◌, ◌+◌, ◌<◌, ◌∙◌, ◌∷◌, ◌≡◌, ◌≢◌, ◌≤◌, alive, ap, arith, cases_lt, cells, chunks_in, ChunksState, cond, cond_both, count-remove, count_among}
use Rattle.mc_shelf.proofs.Common.{count_of, counts_in, counts_of, DeskState, DieNoSooner, DiesNoSooner, DropsAlone, empty, entries_of, EntriesAreKeyed, Entry, entry_at, EntryState, false}
use Rattle.mc_shelf.proofs.Common.{get, get-empty, get-remove, get_or, given, GivesFor, Hashes, hashes_of, if◌then◌else◌, IndexState, inl, inr, is_dead, is_gone, is_none, is_some, IsClass}
use Rattle.mc_shelf.proofs.Common.{IsFirstFrom, IsNeed, IsNext, IsPurged, IsSlab, item_in, item_need, Items, items_of, KeepsLower, KeepsTable, KeyGoes, List, living, nat_list_cmp_total}
use Rattle.mc_shelf.proofs.Common.{need_in, NeedState, None, none-some, NoneIsDead, of_class, Option, option_copied, out_of, Place, refl, remove, same_Some, ShelfContent, ShelfState, Some}
use Rattle.mc_shelf.proofs.Common.{Soonest, subst, sym, true, ℕ}
use Rattle.std.specs.Borrow.{Bor}
use Rattle.mc_shelf.proofs.KeyLemmas.{order, same_maps, get_kept, get_gone, get_gone_other}
use Rattle.mc_shelf.proofs.LabelLemmas.{same, same_list}
use Rattle.mc_shelf.proofs.KeyMapLemmas.{hash_absent, item_held}
use Rattle.mc_shelf.proofs.IndexLemmas.{numbered}
use Rattle.mc_shelf.proofs.CountLemmas.{drops_one}
use Rattle.mc_shelf.proofs.LenLemmas.{one_less}
use Rattle.mc_shelf.proofs.ShelfLemmas.{content_of}
use Rattle.mc_shelf.proofs.StandLemmas.{out-given, weight, weight_here}

-- ---- the desk

module _ {items : Items} {was new : IndexState EntryState} {desk desk' : DeskState} (entry : EntryState) (chunks : ChunksState)
    (gives : GivesFor items (items_of was) desk desk') (are : (class : ℕ) → IsClass class → count_of items class ≤ out_of desk.slab class)
    (found : get (items_of was) entry.key ≡ Some entry.item) (removed : KeyGoes was new entry.key)
    (need_is : need_in chunks ≡ item_need entry.key entry.item) (is_need : IsNeed (item_need entry.key entry.item)) where
  its_class : IsClass chunks.class
  its_class = subst (λ (n : NeedState). IsClass n.class) (sym need_is) is_need.is_class

  its_chunks : (class : ℕ) → of_class entry.key (get (items_of was) entry.key) class ≡ weight chunks.class chunks.count class
  its_chunks class = ap (λ (o : Option Entry). of_class entry.key o class) found ∙ ap (λ (n : NeedState). weight n.class n.count class) (sym need_is)

  -- the chunks of an entry that is removed are out, where others went before it
  pub entry_out : chunks.count ≤ out_of desk'.slab chunks.class
  entry_out =
      let gone = count-remove chunks.class (items_of was) entry.key in
      let here = weight_here chunks.class chunks.count in
      omega (arith, gone, here, its_chunks chunks.class, gives.out chunks.class its_class, are chunks.class its_class)

  -- and go back
  pub entry_gives : {after : DeskState} → after ≡ record desk' { slab = given desk'.slab chunks.class chunks.count } → IsSlab desk'.slab → GivesFor items (items_of new) desk after
  entry_gives back is = record {
    out = λ class is_class.
        let gone = count-remove class (items_of was) entry.key in
        let left = ap (λ (m : Items). count_of m class) removed.items in
        let less = ap (λ (d : DeskState). out_of d.slab class) back ∙ out-given desk'.slab chunks.class its_class is.out chunks.count class is_class in
        omega (arith, gone, left, less, its_chunks class, gives.out class is_class, are class is_class);
    pages = ap (λ (d : DeskState). d.slab.pages) back ∙ gives.pages;
    limit = ap (λ (d : DeskState). d.slab.limit) back ∙ gives.limit;
    next_unique = ap (λ (d : DeskState). d.next_unique) back ∙ gives.next_unique;
  }

-- chunks that lie in a list
pub among_join : (xs ys : List ChunksState) (class : ℕ) → count_among (xs ++ ys) class ≡ count_among xs class + count_among ys class
among_join [] ys class = omega arith
among_join (x ∷ xs) ys class = omega (arith, among_join xs ys class)

-- ---- the items that are alive

alive_or_none : (cut : Option ℕ) (now : ℕ) (found : Option Entry) → cond (is_some (alive cut now found)) found None ≡ alive cut now found
alive_or_none cut now None = refl
alive_or_none cut now (Some item) =
    cond_both (is_dead item.expiry item.updated cut now) None (Some item) (λ o. cond (is_some o) (Some item) None ≡ o) (λ _. refl) (λ _. refl)

pub get_living : (items : Items) (cut : Option ℕ) (now : ℕ) (key : List ℕ) → get (living items cut now) key ≡ alive cut now (get items key)
get_living items cut now key =
    get_kept items (λ k. is_some (alive cut now (get items k))) key ∙ alive_or_none cut now (get items key)

-- a dead item is none of them
living_without : (items : Items) (cut : Option ℕ) (now : ℕ) (key : List ℕ) → alive cut now (get items key) ≡ None → living (remove items key) cut now ≡ living items cut now
living_without items cut now key dead =
    same_maps _ _ (λ q.
    get_living (remove items key) cut now q
    ∙ ap (alive cut now) (get-remove nat_list_cmp_total items key q)
    ∙ cond_both (same q key) None (get items q) (λ o. alive cut now o ≡ alive cut now (get items q))
    (λ t. sym (ap (λ (k : List ℕ). alive cut now (get items k)) (same_list q key t) ∙ dead)) (λ _. refl)
    ∙ sym (get_living items cut now q))

-- where all are alive, they are the living ones
all_living : (items : Items) (cut : Option ℕ) (now : ℕ) → NoneIsDead now cut items → living items cut now ≡ items
all_living items cut now are =
    same_maps _ _ (λ q.
    get_living items cut now q
    ∙ elim (get items q) as (λ o. get items q ≡ o → alive cut now o ≡ o) [ None ↦ λ e. refl | Some item ↦ λ e. ap (λ b. if b then None else Some item) (are q item e) ] refl)

gone_none : (cut : Option ℕ) (now : ℕ) (item : Entry) → is_gone cut now (Some item) ≡ true → alive cut now (Some item) ≡ None
gone_none cut now item =
    elim (is_dead item.expiry item.updated cut now) as (λ b. is_none (if b then None else Some item) ≡ true → (if b then None else Some item) ≡ None) [ true ↦ λ e. refl | false ↦ λ e. cc ]

gone_stays : (cut : Option ℕ) (now : ℕ) (item : Entry) → is_gone cut now (Some item) ≡ false → is_dead item.expiry item.updated cut now ≡ false
gone_stays cut now item = elim (is_dead item.expiry item.updated cut now) as (λ b. is_none (if b then None else Some item) ≡ false → b ≡ false) [ true ↦ λ e. e | false ↦ λ e. refl ]

-- the item that is lent from a place is that of the entry there
item_copied : (found : Option (Bor EntryState)) (e : EntryState) → option_copied found ≡ Some e → item_in found ≡ Some e.item
item_copied None e is = cc
item_copied (Some b) e is = ap (λ (x : EntryState). Some x.item) (same_Some b.now e is)

-- ---- numbers

-- the entries of lower numbers are such
abbrev pub Below : IndexState EntryState → ℕ → (EntryState → Type 0) → Type 0
Below index at P = (k : ℕ) (e : EntryState) → k < at → get_or (cells index) k None ≡ Some e → P e

module _ {index : IndexState EntryState} {at number : ℕ} {place : Place} (first : IsFirstFrom index at number place) where
  module _ (P : EntryState → Type 0) (below : Below index at P) where
    below_skipped : Below index number P
    below_skipped k e lt there = elim (cases_lt k at) [ inl less ↦ below k e less there | inr behind ↦ absurd (none-some e (sym (first.skipped k behind lt) ∙ there)) ]

    -- one entry further
    pub below_next : ((e : EntryState) → entry_at index place ≡ Some e → P e) → Below index (number + 1) P
    below_next here k e lt there =
        elim (cases_lt k number) [
          | inl less ↦ below_skipped k e less there
          | inr behind ↦ let same : place.number ≡ k = omega (arith, first.same) in here e (ap (λ n. get_or (cells index) n None) same ∙ there)
        ]

    -- and after the removal
    pub below_removed : {new : IndexState EntryState} → KeepsLower index new place.number → Below new number P
    below_removed keeps k e lt there = below_skipped k e lt (sym (keeps.lower k (omega (arith, first.same))) ∙ there)

-- where no number is left, each item is of such an entry
pub items_all : (P : EntryState → Type 0) (index : IndexState EntryState) → EntriesAreKeyed (entries_of index) → (at : ℕ) → Below index at P → IsNext index at None
    → (key : List ℕ) (item : Entry) → get (items_of index) key ≡ Some item → (e : EntryState) × (P e) × (e.item ≡ item)
items_all P index keyed at below none key item found =
    let held = item_held _ keyed key item found in
    let one = numbered index (held.entry.hash ∷ key) held.entry held.there in
    (held.entry, elim (cases_lt one.0 at) [ inl less ↦ below one.0 held.entry less one.1 | inr behind ↦ absurd (none-some held.entry (sym (none one.0 behind) ∙ one.1)) ], held.same_part)

-- ---- sweeps

-- the shelf of an index holds what it held but for dead items
pub record Swept (now : ℕ) (old new : ShelfContent) : Type 0 where
  pub greatest : new.greatest ≡ old.greatest
  pub cut : new.cut ≡ old.cut
  pub living_same : living new.items new.cut now ≡ living old.items old.cut now
  pub kept : (key : List ℕ) (item : Entry) → get new.items key ≡ Some item → (get old.items key ≡ Some item) × (get new.hashes key ≡ get old.hashes key)

pub swept_none : (now : ℕ) (shelf : ShelfContent) → Swept now shelf shelf
swept_none now shelf = record { greatest = refl; cut = refl; living_same = refl; kept = λ key item there. (there, refl) }

-- what a removal keeps
kept_by : (was new : IndexState EntryState) (key : List ℕ) → KeyGoes was new key → (other : List ℕ) (item : Entry) → get (items_of new) other ≡ Some item
    → (get (items_of was) other ≡ Some item) × (get (hashes_of new) other ≡ get (hashes_of was) other)
kept_by was new key removed other item there =
    let apart : other ≢ key = λ same. none-some item (sym (ap (λ (k : List ℕ). get (items_of new) k) same ∙ ap (λ (m : Items). get m key) removed.items ∙ get_gone (items_of was) key) ∙ there) in (
      sym (ap (λ (m : Items). get m other) removed.items ∙ get_gone_other (items_of was) key other apart) ∙ there,
      ap (λ (m : Hashes). get m other) removed.hashes ∙ get_gone_other (hashes_of was) key other apart,
    )

-- a dead item is swept
pub swept_one : (now greatest : ℕ) (cut : Option ℕ) (was new : IndexState EntryState) (entry : EntryState) → get (items_of was) entry.key ≡ Some entry.item → KeyGoes was new entry.key
    → is_gone cut now (Some entry.item) ≡ true → Swept now (content_of greatest cut was) (content_of greatest cut new)
swept_one now greatest cut was new entry found removed gone = record {
  greatest = refl;
  cut = refl;
  living_same = ap (λ (m : Items). living m cut now) removed.items ∙ living_without (items_of was) cut now entry.key (ap (alive cut now) found ∙ gone_none cut now entry.item gone);
  kept = kept_by was new entry.key removed;
}

pub swept_both : (now : ℕ) (a b c : ShelfContent) → Swept now a b → Swept now b c → Swept now a c
swept_both now a b c one two = record {
  greatest = two.greatest ∙ one.greatest;
  cut = two.cut ∙ one.cut;
  living_same = two.living_same ∙ one.living_same;
  kept = λ key item there.
      let second = two.kept key item there in
      let first = one.kept key item second.0 in
      (first.0, second.1 ∙ first.1);
}

-- and its chunks are put behind those of others
pub counted_one : (items new : Items) (key : List ℕ) (item : Entry) (all old : List ChunksState) (chunks : ChunksState) → get items key ≡ Some item → new ≡ remove items key
    → need_in chunks ≡ item_need key item → all ≡ old ++ chunks ∷ [] → (class : ℕ) → count_among all class + count_of new class ≡ count_among old class + count_of items class
counted_one items new key item all old chunks found new_is need_is all_is class =
    let behind : count_among all class ≡ count_among old class + count_among (chunks ∷ []) class = ap (λ l. count_among l class) all_is ∙ among_join old (chunks ∷ []) class in
    let gone = count-remove class items key in
    let less = ap (λ (m : Items). count_of m class) new_is in
    let one : of_class key (get items key) class ≡ chunks_in (item_need key item) class = ap (λ (o : Option Entry). of_class key o class) found in
    let same : chunks_in (need_in chunks) class ≡ chunks_in (item_need key item) class = ap (λ (n : NeedState). chunks_in n class) need_is in
    omega (arith, behind, gone, less, one, same)

-- the entry is not dead at a moment, and dies no sooner than this
abbrev pub Stays : (cut : Option ℕ) → (now : ℕ) → Soonest → EntryState → Type 0
Stays cut now soonest e = (is_dead e.item.expiry e.item.updated cut now ≡ false) × DiesNoSooner soonest e.item

pub purged : (now : ℕ) (old : ShelfContent) (greatest : ℕ) (cut : Option ℕ) (index : IndexState EntryState) → EntriesAreKeyed (entries_of index)
    → Swept now old (content_of greatest cut index) → NoneIsDead now cut (items_of index) → IsPurged now old (content_of greatest cut index)
purged now old greatest cut index keyed swept none =
    let items = items_of index in
    record {
      greatest = swept.greatest;
      cut = swept.cut;
      items = sym (all_living items cut now none) ∙ swept.living_same;
      hashes = λ key. elim (get items key) as (λ o. get items key ≡ o → get (hashes_of index) key ≡ (if is_some o then get old.hashes key else None)) [
        | None ↦ λ e. hash_absent _ keyed key e
        | Some item ↦ λ e. (swept.kept key item e).1
      ] refl;
    }

-- how far a sweep for dead items has come: the entries of lower numbers stay
pub record IsSwept (now : ℕ) (old : ShelfState) (greatest : ℕ) (cut : Option ℕ) (index : IndexState EntryState) (at : ℕ) (soonest : Soonest) : Type 0 where
  pub most : greatest ≤ 8388608
  pub swept : Swept now old.content (content_of greatest cut index)
  pub table : DropsAlone (counts_of old) (counts_in index)
  pub below : Below index at (Stays cut now soonest)

module _ {now : ℕ} {old : ShelfState} {greatest : ℕ} {cut : Option ℕ} {index : IndexState EntryState} {at : ℕ} {soonest : Soonest} (held : IsSwept now old greatest cut index at soonest) where
  module _ {number : ℕ} {place : Place} (first : IsFirstFrom index at number place) (found : Option (Bor EntryState)) (copied : option_copied found ≡ entry_at index place) where
    -- the next entry is dead, and goes
    pub swept_gone : is_gone cut now (item_in found) ≡ true → (new : IndexState EntryState) (entry : EntryState) → entry_at index place ≡ Some entry → get (items_of index) entry.key ≡ Some entry.item
        → KeyGoes index new entry.key → KeepsTable 1 (counts_in index) (counts_in new) → KeepsLower index new place.number → IsSwept now old greatest cut new number soonest
    swept_gone gone new entry there item removed table lower = record {
      most = held.most;
      swept = swept_both now old.content (content_of greatest cut index) (content_of greatest cut new) held.swept
          (swept_one now greatest cut index new entry item removed (ap (is_gone cut now) (sym (item_copied found entry (copied ∙ there))) ∙ gone));
      table = drops_one (counts_of old) (counts_in index) (counts_in new) held.table table (one_less (items_of index) (items_of new) entry.key entry.item item removed.items);
      below = below_removed first (Stays cut now soonest) held.below lower;
    }

    -- or it stays
    pub swept_on : is_gone cut now (item_in found) ≡ false → (again : Option (Bor EntryState)) → option_copied again ≡ entry_at index place → (later : Soonest)
        → ((item : Entry) → DiesNoSooner soonest item → DiesNoSooner later item) → ((item : Entry) → item_in again ≡ Some item → DiesNoSooner later item)
        → IsSwept now old greatest cut index (number + 1) later
    swept_on lives again same later others one = record {
      most = held.most;
      swept = held.swept;
      table = held.table;
      below = below_next first (Stays cut now later) (λ k e lt there. ((held.below k e lt there).0, others e.item (held.below k e lt there).1)) (λ e there. (
        gone_stays cut now e.item (ap (is_gone cut now) (sym (item_copied found e (copied ∙ there))) ∙ lives),
        one e.item (item_copied again e (same ∙ there)),
      ));
    }

  -- at the end
  pub swept_all : EntriesAreKeyed (entries_of index) → IsNext index at None → IsPurged now old.content (content_of greatest cut index) × DieNoSooner soonest (items_of index)
  swept_all keyed none =
      let all = items_all (Stays cut now soonest) index keyed at held.below none in (
        purged now old.content greatest cut index keyed held.swept
            (λ key item there. let one = all key item there in subst (λ (i : Entry). is_dead i.expiry i.updated cut now ≡ false) one.2 one.1.0),
        λ key item there. let one = all key item there in subst (DiesNoSooner soonest) one.2 one.1.1,
      )

-- at the end of a flush
abbrev pub IsNone : EntryState → Type 0
IsNone e = ⊥

pub cleared : (index : IndexState EntryState) → EntriesAreKeyed (entries_of index) → (at : ℕ) → Below index at IsNone → IsNext index at None → (items_of index ≡ empty) × (hashes_of index ≡ empty)
cleared index keyed at below none =
    let gone : (key : List ℕ) → get (items_of index) key ≡ None =
    λ key. elim (get (items_of index) key) as
    (λ o. get (items_of index) key ≡ o → o ≡ None) [ None ↦ λ e. refl | Some item ↦ λ e. absurd (items_all IsNone index keyed at below none key item e).1 ] refl in
    (same_maps _ _ (λ q. gone q ∙ sym (get-empty order q)), same_maps _ _ (λ q. hash_absent _ keyed q (gone q) ∙ sym (get-empty order q)))
