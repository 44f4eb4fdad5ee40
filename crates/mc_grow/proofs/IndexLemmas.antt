-- What an index is after moves and inserts, by its parts.
use Rattle.mc_grow.proofs.Words.{◌≡◌, ℕ, zero, suc, cond, replicate, is_some, not, ◌&&◌, Bool, true, false, true≢false, List, [], ◌∷◌, ◌++◌, map, Option, Some, None, ◌+◌, length, get_or}
use Rattle.mc_grow.proofs.Words.{refl, sym, ap, subst, ◌∙◌, arith, nat_lt, get, len, len-insert, nat_list_cmp_total, lt-ltb, filled, content, AreApart, HopState, Map, at_its_key}
use Rattle.mc_grow.proofs.Words.{joined_parts, many_entries, no_entries, IndexState, IsPlaceOf, cells, count, holds, HoldsAll, IsIn, drained_items, AreMoved, AreTaken, AreTried, Side}
use Rattle.mc_grow.proofs.Words.{cells_of, side_of}
use Rattle.mc_grow.proofs.CellLemmas.{get_second}
use Rattle.mc_grow.proofs.MoveLemmas.{in_second, more_buckets}

-- ---- entries are moved

-- what stands for an index after moves: its exponent, the old table's buckets, the table and the strays, and whether a growth runs
abbrev pub Parts : Type 0 → Type 0
Parts X = ℕ × List (Option X) × Side X × Bool

abbrev pub parts_of : {X : Type 0} → IndexState X → Parts X
parts_of index = (index.k, index.draining, side_of index, index.growing)

module _ {X : Type 0} (hash_of : X → ℕ) (key_of : X → List ℕ) {v now new : IndexState X} (same : v ≡ now) where
  -- where no growth runs nothing moves
  pub nothing_moved : v.draining ≡ [] → v.growing ≡ false → new ≡ v → AreMoved hash_of key_of 0 now new
  nothing_moved none rests stays = subst (λ (s : IndexState X). AreMoved hash_of key_of 0 s new) same (record {
    same_k = ap (λ (s : IndexState X). s.k) stays;
    idle = λ _. stays;
    after = side_of v;
    moved = record { entries = []; many = refl; taken = ap (λ (s : IndexState X). content hash_of key_of s.draining) stays; added = refl };
    goes_on = λ _. ap side_of stays;
    ends = λ e _. absurd (true≢false (sym e ∙ rests));
    dropped = λ _. ap (λ (s : IndexState X). s.draining) stays ∙ none;
    growing = ap (λ (s : IndexState X). s.growing) stays ∙ rests ∙ sym (ap (λ (d : List (Option X)). nat_lt 0 (filled d)) (ap (λ (s : IndexState X). s.draining) stays ∙ none));
  })

  module _ {n : ℕ} {first drained : List (Option X)} {side : Side X} (runs : v.growing ≡ true) (drain : first ≡ v.draining)
      (taken : AreTaken hash_of key_of v.k n first drained (side_of v) side) where
    -- the last entries were moved
    pub moved_to_the_end : {k k_now : ℕ} {last : Side X} → filled drained ≡ 0 → AreTried hash_of key_of k side last → k ≡ v.k → k_now ≡ k → parts_of new ≡ (k_now, [], last, false)
        → AreMoved hash_of key_of n now new
    moved_to_the_end {last = last} empty tried same_then same_k is =
        let none_now : new.draining ≡ [] = ap (λ (p : Parts X). p.1) is in
        subst (λ (s : IndexState X). AreMoved hash_of key_of n s new) same (record {
          same_k = ap (λ (p : Parts X). p.0) is ∙ same_k ∙ same_then;
          idle = λ e. absurd (true≢false (sym runs ∙ e));
          after = side;
          moved = record {
            entries = taken.entries;
            many = taken.many;
            taken = joined_parts hash_of key_of (map Some taken.entries) new.draining (map Some taken.entries) drained refl
                (ap (content hash_of key_of) none_now ∙ sym (no_entries hash_of key_of drained empty)) ∙ taken.taken ∙ ap (content hash_of key_of) drain;
            added = taken.added;
          };
          goes_on = λ l. absurd (omega (arith, ap filled none_now));
          ends = λ _ _. subst (AreTried hash_of key_of v.k side) (sym (ap (λ (p : Parts X). p.2) is)) (subst (λ (m : ℕ). AreTried hash_of key_of m side last) same_then tried);
          dropped = λ _. none_now;
          growing = ap (λ (p : Parts X). p.3) is ∙ sym (ap (λ (d : List (Option X)). nat_lt 0 (filled d)) none_now);
        })

    -- entries were moved, and some are left
    pub moved_some : {k : ℕ} → (filled drained ≡ 0 → ⊥) → k ≡ v.k → parts_of new ≡ (k, drained, side, true) → AreMoved hash_of key_of n now new
    moved_some some same_k is =
        let left_is : new.draining ≡ drained = ap (λ (p : Parts X). p.1) is in
        subst (λ (s : IndexState X). AreMoved hash_of key_of n s new) same (record {
          same_k = ap (λ (p : Parts X). p.0) is ∙ same_k;
          idle = λ e. absurd (true≢false (sym runs ∙ e));
          after = side;
          moved = record {
            entries = taken.entries;
            many = taken.many;
            taken = ap (λ (d : List (Option X)). content hash_of key_of (map Some taken.entries ++ d)) left_is ∙ taken.taken ∙ ap (content hash_of key_of) drain;
            added = taken.added;
          };
          goes_on = λ _. ap (λ (p : Parts X). p.2) is;
          ends = λ _ none. absurd (some (ap filled (sym left_is) ∙ none));
          dropped = λ none. absurd (some (ap filled (sym left_is) ∙ none));
          growing = ap (λ (p : Parts X). p.3) is ∙ sym (ap (λ (d : List (Option X)). nat_lt 0 (filled d)) left_is ∙ lt-ltb 0 (filled drained) (omega (arith, some)));
        })

-- what is held then, and how much: where some are left to move, and where a growth ended
module _ {X : Type 0} (hash_of : X → ℕ) (key_of : X → List ℕ) {v now : IndexState X} (drained : List (Option X)) (side : Side X) {first : List (Option X)} (same : v ≡ now)
    (apart : AreApart hash_of key_of (cells v)) (drain : first ≡ v.draining) (moved : HoldsAll hash_of key_of (first ++ cells_of (side_of v)) (drained ++ cells_of side)) where
  held : HoldsAll hash_of key_of (cells v) (drained ++ cells_of side)
  held = subst (λ (d : List (Option X)). HoldsAll hash_of key_of (d ++ cells_of (side_of v)) (drained ++ cells_of side)) drain moved

  as_held : {all : List (Option X)} → HoldsAll hash_of key_of (cells v) all → (content hash_of key_of all ≡ holds hash_of key_of now) × (filled all ≡ count now)
  as_held {all} is =
      (is.same ∙ ap (holds hash_of key_of) same, sym (many_entries hash_of key_of all is.apart) ∙ ap (λ (m : Map X). len m) is.same ∙ many_entries hash_of key_of (cells v) apart ∙ ap count same)

  pub held_left : {all : List (Option X)} → all ≡ drained ++ cells_of side → (content hash_of key_of all ≡ holds hash_of key_of now) × (filled all ≡ count now)
  held_left is = as_held (subst (HoldsAll hash_of key_of (cells v)) (sym is) held)

  pub held_at_the_end : {all : List (Option X)} (last : Side X) → filled drained ≡ 0 → HoldsAll hash_of key_of (cells_of side) (cells_of last) → all ≡ cells_of last
      → (content hash_of key_of all ≡ holds hash_of key_of now) × (filled all ≡ count now)
  held_at_the_end last empty tried is =
      let alike = joined_parts hash_of key_of drained (cells_of side) [] (cells_of side) (no_entries hash_of key_of drained empty) refl in
      as_held (subst (HoldsAll hash_of key_of (cells v)) (sym is) (record { same = tried.same ∙ sym alike ∙ held.same; apart = tried.apart }))

-- ---- an entry has come to the table and the strays of an index

module _ {X : Type 0} (hash_of : X → ℕ) (key_of : X → List ℕ) {v now : IndexState X} {new : List (Option X)} {entry : X} (same : v ≡ now) (apart : AreApart hash_of key_of (cells v))
    (fresh_now : get (holds hash_of key_of now) (hash_of entry ∷ key_of entry) ≡ None) (come : IsIn hash_of key_of entry (cells_of (side_of v)) new) where
  fresh : get (holds hash_of key_of v) (hash_of entry ∷ key_of entry) ≡ None
  fresh = ap (λ (s : IndexState X). get (holds hash_of key_of s) (hash_of entry ∷ key_of entry)) same ∙ fresh_now

  pub come_in : IsIn hash_of key_of entry (cells v) (v.draining ++ new)
  come_in = in_second hash_of key_of v.draining (cells_of (side_of v)) new entry apart fresh come

  pub one_more : filled (v.draining ++ new) ≡ count now + 1
  one_more =
      let many = len (holds hash_of key_of v) in
      sym (many_entries hash_of key_of (v.draining ++ new) come_in.apart) ∙ ap (λ (m : Map X). len m) come_in.come
      ∙ len-insert nat_list_cmp_total (holds hash_of key_of v) (hash_of entry ∷ key_of entry) entry ∙ ap (λ (o : Option X). cond (is_some o) many (many + 1)) fresh
      ∙ ap (λ (n : ℕ). n + 1) (many_entries hash_of key_of (cells v) apart ∙ ap count same)

  pub its_place : (index : IndexState X) (number at : ℕ) → cells index ≡ v.draining ++ new → number ≡ length v.draining + at → get_or new at None ≡ Some entry
      → IsPlaceOf hash_of key_of index (hash_of entry) (key_of entry) (record { number = number })
  its_place index number at is its there = record {
    entry = entry;
    there = ap (λ (l : List (Option X)). get_or l number None) is ∙ get_second v.draining new at number its ∙ there;
    same_hash = refl;
    same_key = refl;
    held = ap (λ (l : List (Option X)). get (content hash_of key_of l) (hash_of entry ∷ key_of entry)) is
        ∙ ap (λ (m : Map X). get m (hash_of entry ∷ key_of entry)) come_in.come ∙ at_its_key (holds hash_of key_of v) (hash_of entry ∷ key_of entry) entry;
  }

-- ---- a growth begins

filled_none : (X : Type 0) (n : ℕ) → filled {X = X} (replicate n None) ≡ 0
filled_none X zero = refl
filled_none X (suc n) = filled_none X n

-- a growth is due only where none runs
pub due_rests : (growing rest : Bool) → (not growing && rest) ≡ true → growing ≡ false
due_rests true rest e = absurd (true≢false (sym e))
due_rests false rest e = refl

-- the content stays
pub begun : {X : Type 0} (hash_of : X → ℕ) (key_of : X → List ℕ) (draining : Option (HopState X)) (table made drained now : HopState X) (strays strays_now : List X) (k n : ℕ)
    → is_some draining ≡ false → drained ≡ table → now ≡ made → made ≡ record { k = k; items = replicate n None } → AreApart hash_of key_of made.items → strays_now ≡ strays
    → AreApart hash_of key_of (drained_items draining ++ (table.items ++ map Some strays))
    → HoldsAll hash_of key_of (drained_items draining ++ (table.items ++ map Some strays)) (drained.items ++ (now.items ++ map Some strays_now))
begun hash_of key_of (Some old) table made drained now strays strays_now k n rests old_is new_is empty own same apart = absurd (true≢false rests)
begun {X} hash_of key_of None table made drained now strays strays_now k n rests old_is new_is empty own same apart =
    let nothing : filled made.items ≡ 0 = ap (λ (t : HopState X). filled t.items) empty ∙ filled_none X n in
    subst (HoldsAll hash_of key_of (table.items ++ map Some strays)) (sym (λ i. (old_is i).items ++ ((new_is i).items ++ map Some (same i))))
    (more_buckets hash_of key_of table.items (map Some strays) made.items nothing own apart)
