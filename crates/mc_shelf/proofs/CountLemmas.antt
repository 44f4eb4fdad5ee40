-- How few entries of an old table a step moves.
use Rattle.mc_shelf.proofs.Common.{[], ⊎_elim, ◌&&◌, ◌*◌, ◌+◌, ◌-◌, ◌^◌, ◌||◌, ◌∙◌, ◌∷◌, ◌≡◌, ◌≤◌, ◌⊎◌, and_parts, ap, arith, Bool, CaughtUp, count, counts_in, DropsAlone, entries_of, Entry}
use Rattle.mc_shelf.proofs.Common.{EntryMap, EntryState, Err, false, filled, hash_in, IndexState, inl, inr, is_due, ItemIsChanged, items_in, items_of, KeepsTable, key_in, lags, left, len}
use Rattle.mc_shelf.proofs.Common.{length, length-append, List, ltb-false, ltb-true, MovesFew, not, Ok, refl, Result, ShelfCounts, StandsAs, subst, suc, sym, true, true≢false, zero, ℕ}
use Rattle.std.specs.Prelude.{min, nat_lt, OnOk, OnErr}
use Rattle.std.proofs.lemmas.Grind.{pow_more}
use Rattle.std.proofs.lemmas.List.Sorted.{length_permutation}
use Rattle.mc_grow.specs.Adding.{AreAdded, AreMoved, IsAdded, Side}
use Rattle.mc_grow.proofs.CellLemmas.{count_parts}
use Rattle.mc_shelf.specs.Counts.{Begins, BeginsToMove, CatchesUp, GoesOn, GrowthIsDue, IsLoaded}
use Rattle.mc_grow.specs.Indexes as grow

-- ---- an index after a change

module _ (old new : IndexState EntryState) (same_k : new.k ≡ old.k) (same_growing : new.growing ≡ old.growing) where
  pub unmoved : left new ≡ left old → KeepsTable 0 (counts_in old) (counts_in new)
  unmoved same = record { homes = ap (λ k. 2 ^ k) same_k; growing = same_growing; less = omega (arith, same); few = omega (arith, same) }

-- ---- moves that catch up

-- an entry that is added makes one stray more at most
added_stray : (k : ℕ) (entry : EntryState) (old new : Side EntryState) → IsAdded hash_in key_in k entry old new → length new.strays ≤ length old.strays + 1
added_stray k entry old new (inl placed) = let same = ap (λ (l : List EntryState). length l) placed.strays in omega (arith, same)
added_stray k entry old new (inr strayed) = let more = ap (λ (l : List EntryState). length l) strayed.strays ∙ length-append old.strays (entry ∷ []) in omega (arith, more)

added_strays : (k : ℕ) (entries : List EntryState) (old new : Side EntryState) → AreAdded hash_in key_in k entries old new → length new.strays ≤ length old.strays + length entries
added_strays k [] old new same = let is = ap (λ (s : Side EntryState). length s.strays) same in omega (arith, is)
added_strays k (entry ∷ entries) old new added =
    let first = added_stray k entry old added.0 added.1 in
    let others = added_strays k entries added.0 new added.2 in
    omega (arith, first, others)

-- as many strays more at most as entries are moved
module _ (old new : IndexState EntryState) (n : ℕ) (are : AreMoved hash_in key_in n old new) (runs : old.growing ≡ true) where
  moved_strays_by : (rest : ℕ) → left new ≡ rest → length new.strays ≤ length old.strays + n
  moved_strays_by zero none =
      let tried = are.ends runs none in
      let before = added_strays _ _ _ _ are.moved.added in
      let same = length_permutation are.after.strays tried.tried tried.each in
      let again = added_strays _ _ _ _ tried.added in
      omega (arith, before, same, again, are.moved.many)
  moved_strays_by (suc rest) some =
      let same = ap (λ (s : Side EntryState). length s.strays) (are.goes_on (omega (arith, some))) in
      let before = added_strays _ _ _ _ are.moved.added in
      omega (arith, before, same, are.moved.many)

module _ (old new : IndexState EntryState) (once : len (items_of old) ≡ count old) where
  loaded : nat_lt (3 * 2 ^ old.k) (4 * (count old + 1)) ≡ true → IsLoaded (counts_in old)
  loaded e = omega (arith, ltb-true (3 * 2 ^ old.k) (4 * (count old + 1)) e, once)

  pub caught_up : (moved : ℕ) → lags old ≡ true → AreMoved hash_in key_in moved old new → moved ≡ min 8 (left old) → left new ≡ left old - moved
      → entries_of new ≡ entries_of old → CaughtUp (counts_in old) (counts_in new)
  caught_up moved late are is rest same =
      let load = and_parts old.growing (nat_lt (3 * 2 ^ old.k) (4 * (count old + 1))) late in
      record {
        items = ap (λ (m : EntryMap). len (items_in m)) same;
        goes = record { homes = ap (λ k. 2 ^ k) are.same_k; none_begins = λ _. load.0; less = omega (arith, rest); few = omega (arith, rest, is) };
        ends = λ _ over. (
          let none : left new ≤ 0 = ltb-false 0 (left new) (sym are.growing ∙ over) in omega (arith, none, rest, is),
          loaded load.1,
        );
        lags = λ _ _. omega (arith, rest, is);
        none_left = λ e. absurd (true≢false (sym load.0 ∙ e));
        rests = λ e. absurd (true≢false (sym load.0 ∙ e));
        over = λ over. let none : left new ≤ 0 = ltb-false 0 (left new) (sym are.growing ∙ over) in omega (arith, none);
        strays = let more = moved_strays_by old new moved are load.0 (left new) refl in omega (arith, more, is);
      }

-- where no growth lags
other_false : (b c : Bool) → (b && c) ≡ false → b ≡ true → c ≡ false
other_false true c e runs = e
other_false false c e runs = cc

pub caught_none : (index : IndexState EntryState) (n : ℕ) → len (items_of index) ≡ count index → lags index ≡ false → n ≡ left index → (index.growing ≡ false → n ≡ 0)
    → CaughtUp (counts_in index) (counts_in index)
caught_none index n once timely is rests = record {
  lags = λ runs load.
      let few = ltb-false (3 * 2 ^ index.k) (4 * (count index + 1)) (other_false index.growing (nat_lt (3 * 2 ^ index.k) (4 * (count index + 1))) timely runs) in
      absurd (omega (arith, few, load, once));
  items = refl;
  goes = record { homes = refl; none_begins = λ e. e; less = omega arith; few = omega arith };
  ends = λ e over. absurd (true≢false (sym e ∙ over));
  none_left = λ e. sym is ∙ rests e;
  rests = λ _. refl;
  over = λ e. sym is ∙ rests e;
  strays = omega arith;
}

-- ---- a reserve

-- of the test that tells whether a growth is due
due_by_load : (growing few more stray many : Bool) → (not growing && (few && (more || (stray && not many)))) ≡ true
    → (growing ≡ false) × ((more ≡ true) ⊎ ((stray ≡ true) × (many ≡ false)))
due_by_load false true true stray many e = (refl, inl refl)
due_by_load false true false true false e = (refl, inr (refl, refl))
due_by_load growing few more stray many e = absurd (true≢false (sym e))

doubled : (k : ℕ) → 2 ^ (k + 1) ≡ 2 * 2 ^ k
doubled k = omega (arith, pow_more 2 k)

module _ (old : ShelfCounts) (mid new : IndexState EntryState) (caught : CaughtUp old (counts_in mid)) (once : len (items_of mid) ≡ count mid) where
  stays_so : StandsAs mid new → MovesFew 8 old (counts_in new)
  stays_so is = inl (subst (λ (c : ShelfCounts). GoesOn 8 old c) (sym same) caught.goes) where
    same : counts_in new ≡ counts_in mid
    same = ap counts_in is

  was_due : is_due mid ≡ true → GrowthIsDue (counts_in mid) × (mid.growing ≡ false)
  was_due e =
      let homes = 2 ^ mid.k in
      let four = 4 * (count mid + 1) in
      let why = due_by_load mid.growing (nat_lt mid.k 24) (nat_lt (3 * homes) four) (nat_lt 0 (length mid.strays)) (nat_lt four homes) e in (
        ⊎_elim (λ more. inl (omega (arith, ltb-true (3 * homes) four more, once)))
            (λ both. inr (why.0, ltb-true 0 (length mid.strays) both.0, omega (arith, ltb-false four homes both.1, once))) why.1,
        why.0,
      )

  due_before : GrowthIsDue (counts_in mid) → mid.growing ≡ false → GrowthIsDue old × (old.left ≤ 8)
  due_before due over =
      elim (old.growing) as (λ b. old.growing ≡ b → GrowthIsDue old × (old.left ≤ 8)) [
        | true ↦ λ runs. let last = caught.ends runs over in (inl last.1, last.0)
        | false ↦ λ rests. (subst (λ (c : ShelfCounts). GrowthIsDue c) (caught.rests rests) due, omega (arith, caught.none_left rests))
      ] refl

  begins_so : is_due mid ≡ true → grow.HasBegun mid new → Begins old (counts_in new)
  begins_so e is =
      let was = was_due e in
      let before = due_before was.0 was.1 in
      let fewer : filled mid.table ≤ count mid = omega (arith, count_parts mid.draining mid.table mid.strays) in
      let rest : left new ≡ filled mid.table = ap (λ (s : IndexState EntryState). left s) is in
      record {
        due = before.0;
        last = before.1;
        homes = ap (λ (s : IndexState EntryState). 2 ^ s.k) is ∙ doubled mid.k ∙ ap (λ n. 2 * n) caught.goes.homes;
        growing = ap (λ (s : IndexState EntryState). s.growing) is;
        left = omega (arith, rest, fewer, once, caught.items);
      }

  begins_few : is_due mid ≡ true → grow.HasBegun mid new → BeginsToMove 8 old (counts_in new)
  begins_few e is =
      let none = caught.over (was_due e).1 in
      let parts = count_parts mid.draining mid.table mid.strays in
      let rest : left new ≡ filled mid.table = ap (λ (s : IndexState EntryState). left s) is in
      record { begins = begins_so e is; few = omega (arith, rest, parts, none, once, caught.items, caught.strays) }

  pub reserved : {T E : Type 0} (result : Result T E) → OnOk result (is_due mid ≡ true → grow.HasBegun mid new) → OnOk result (is_due mid ≡ false → StandsAs mid new)
      → OnErr result (StandsAs mid new) → MovesFew 8 old (counts_in new)
  reserved (Ok done) begins stays refused =
      elim (is_due mid) as (λ b. is_due mid ≡ b → MovesFew 8 old (counts_in new)) [
        | true ↦ λ due. inr (begins_few due (begins due))
        | false ↦ λ none. stays_so (stays none)
      ] refl
  reserved (Err fault) begins stays refused = stays_so refused

  catches_so : StandsAs mid new → CatchesUp old (counts_in new)
  catches_so is runs load = inl (subst (λ (c : ShelfCounts). c.left ≤ old.left - 8) (sym same) (caught.lags runs load)) where
    same : counts_in new ≡ counts_in mid
    same = ap counts_in is

  pub catches : {T E : Type 0} (result : Result T E) → OnOk result (is_due mid ≡ true → grow.HasBegun mid new) → OnOk result (is_due mid ≡ false → StandsAs mid new)
      → OnErr result (StandsAs mid new) → CatchesUp old (counts_in new)
  catches (Ok done) begins stays refused =
      elim (is_due mid) as (λ b. is_due mid ≡ b → CatchesUp old (counts_in new)) [
        | true ↦ λ due runs load. inr (begins_so due (begins due))
        | false ↦ λ none. catches_so (stays none)
      ] refl
  catches (Err fault) begins stays refused = catches_so refused

-- ---- the table of a shelf

-- it is as it was
pub kept : (counts : ShelfCounts) → KeepsTable 0 counts counts
kept counts = record { homes = refl; growing = refl; less = omega arith; few = omega arith }

pub kept_one : (old new : ShelfCounts) → KeepsTable 0 old new → KeepsTable 1 old new
kept_one old new is = record { homes = is.homes; growing = is.growing; less = is.less; few = omega (arith, is.few) }

pub kept_whole : (counts : ShelfCounts) → KeepsTable 1 counts counts
kept_whole counts = kept_one counts counts (kept counts)

pub ruleset table_rules = (kept, kept_one, kept_whole)

-- an item was changed
pub changed_kept : (old new : IndexState EntryState) (key : List ℕ) (item : Entry) → ItemIsChanged old new key item → KeepsTable 0 (counts_in old) (counts_in new)
changed_kept old new key item is = unmoved old new is.same_k is.same_growing is.same_left

-- a step: room is made for an entry first, and then the key's own may go
pub moved_more : (old new : ShelfCounts) → MovesFew 8 old new → MovesFew 9 old new
moved_more old new (inl goes) = inl (record { homes = goes.homes; none_begins = goes.none_begins; less = goes.less; few = omega (arith, goes.few) })
moved_more old new (inr begins) = inr (record { begins = begins.begins; few = omega (arith, begins.few) })

begun_then : (old mid new : ShelfCounts) → Begins old mid → KeepsTable 1 mid new → Begins old new
begun_then old mid new begins keeps = record {
  due = begins.due;
  last = begins.last;
  homes = keeps.homes ∙ begins.homes;
  growing = keeps.growing ∙ begins.growing;
  left = omega (arith, begins.left, keeps.less);
}

pub moved_then : (old mid new : ShelfCounts) → MovesFew 8 old mid → KeepsTable 1 mid new → MovesFew 9 old new
moved_then old mid new (inl goes) keeps = inl (record {
  homes = keeps.homes ∙ goes.homes;
  none_begins = λ e. goes.none_begins (sym keeps.growing ∙ e);
  less = omega (arith, goes.less, keeps.less);
  few = omega (arith, goes.few, keeps.few);
})
moved_then old mid new (inr begins) keeps = inr (record { begins = begun_then old mid new begins.begins keeps; few = omega (arith, begins.few, keeps.few) })

-- a sweep
pub drops_one : (old mid new : ShelfCounts) → DropsAlone old mid → KeepsTable 1 mid new → mid.items ≡ new.items + 1 → DropsAlone old new
drops_one old mid new drops keeps one = record {
  homes = keeps.homes ∙ drops.homes;
  growing = keeps.growing ∙ drops.growing;
  less = omega (arith, drops.less, keeps.less);
  fewer = omega (arith, drops.fewer, one);
  few = omega (arith, drops.few, keeps.few, one);
}

-- what a sweep drops is counted
pub counted_before : {before was after has had was' is : ℕ} → (is + after ≡ was' + before) ⊎ (is ≡ 2 ^ 64 - 1) → before ≡ had → after ≡ has → was' ≡ was → (is + has ≡ was + had) ⊎ (is ≡ 2 ^ 64 - 1)
counted_before counted before after same = ⊎_elim (λ all. inl (omega (arith, all, before, after, same))) (λ most. inr most) counted
