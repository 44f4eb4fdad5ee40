-- What a read is told, by the entries before it.
use Rattle.std.proofs.Common.{◌≡◌, ◌≢◌, ◌⊎◌, inl, inr, ⊎_elim, ℕ, Bool, true, false, cond, eqb, List, [], ◌∷◌, ◌++◌, Some, None, sym, refl, ap, ◌∙◌, subst, arith}
use Rattle.std.proofs.Common.{append_assoc, ne_eqb}
use Rattle.mc_shared.proofs.Words.{not, get, empty, retain_keys, get-empty, dite, ℕ_discrete, KeyStep, Read, Delete, Flush, Reply, Stored, Hit, key_of, Plain, Items}
use Rattle.mc_shared.proofs.Words.{Answered, plain, stepped, alive, flushed, Entry as Item, Beginning, Operation, Stepped, Purged, HistoryEntry, shelf_in, left_by, next}
use Rattle.mc_shared.proofs.Words.{IsRight, after, IsLegal, Past, same, Ordered, KeptBy, entry_of, with_call}
use Rattle.mc_laws.specs.Laws.{StandsInLog, StandsBefore, Has, MayChange, item_after}
use Rattle.mc_shared.proofs.Words.{order, get_kept}
use Rattle.mc_laws.specs.Laws.{item_given, HasItem, Wrote}
use Rattle.std.specs.Prelude.{is_some, ◌||◌}
use Rattle.mc_protocol.specs.Laws.{IsOnKey}
use Rattle.mc_laws.specs.Laws.{IsTold, ReadsLatest, ReadsWrite, read_of, IsWrittenIn}
use Rattle.mc_laws.proofs.OrderLawLemmas.{stands_in}
use Rattle.mc_laws.proofs.KeyLawLemmas.{none_some, kept_was, Traces, stepped_traces, hit_shows, read_told, hit_leaves, deleted_drops, given_left}
use Rattle.mc_shared.proofs.Sums.{head_is, tail_is}
use Rattle.mc_shared.proofs.NamedKept.{same_self, apart_or_one}

-- the law of mc_protocol on other keys
abbrev pub OthersStay : Type 0
OthersStay = (old new : Plain) (step : KeyStep) (now : ℕ) (reply : Reply) (other : List ℕ) → IsOnKey step → plain old step now ≡ Answered reply new
    → other ≢ key_of step → get new.items other ≡ get old.items other

-- ---- keys
one_or_other : (c d : List ℕ) → (c ≡ d) ⊎ (c ≢ d)
one_or_other c d = ⊎_elim
    (λ (none : same c d ≡ 0). inr (λ is. let one : same c d ≡ 1 = subst (λ x. same c x ≡ 1) is (same_self c) in absurd (omega (arith, one, none))))
    inl (apart_or_one c d)

pub may_or_not : (began : Beginning) (key : List ℕ) (what : Operation) → MayChange began key what ⊎ (MayChange began key what → ⊥)
may_or_not began key (Stepped (Flush delay) now reply) = inl tt
may_or_not began key (Stepped (Read other) now (Hit flags unique block)) = inr (λ h. h)
may_or_not began key (Stepped step now reply) = one_or_other (key_of step) key
may_or_not began key (Purged shelf now) = dite (ℕ_discrete (shelf_in began key) shelf) (λ e. inl e) (λ ne. inr ne)

-- ---- fronts of a history
module _ (began : Beginning) where
  pub legal_parts : (m : Plain) (xs ys : List HistoryEntry) → IsLegal began m (xs ++ ys) → IsLegal began m xs × IsLegal began (after began m xs) ys
  legal_parts m [] ys legal = (tt, legal)
  legal_parts m (x ∷ xs) ys legal = let more = legal_parts (next began m x.what) xs ys legal.1 in ((legal.0, more.0), more.1)

  pub after_parts : (m : Plain) (xs ys : List HistoryEntry) → after began m (xs ++ ys) ≡ after began (after began m xs) ys
  after_parts m [] ys = refl
  after_parts m (x ∷ xs) ys = after_parts (next began m x.what) xs ys

pub stands_behind : (x e : HistoryEntry) (es : List HistoryEntry) → StandsInLog es e → StandsInLog (x ∷ es) e
stands_behind x e es s = (x ∷ s.0, s.1, ap (λ ys. x ∷ ys) s.2)

-- what stands in a list is its first or stands behind it
pub first_or_behind : (x e : HistoryEntry) (es : List HistoryEntry) → StandsInLog (x ∷ es) e → (e ≡ x) ⊎ StandsInLog es e
first_or_behind x e es ([], rest, is) = inl (sym (head_is is))
first_or_behind x e es (y ∷ before, rest, is) = inr (before, rest, tail_is is)

pub none_stands : (e : HistoryEntry) → StandsInLog [] e → ⊥
none_stands e ([], rest, is) = cc is
none_stands e (x ∷ before, rest, is) = cc is

-- what stands in a list stands before one of its places, at it, or behind it
pub around : (before : List HistoryEntry) (at : HistoryEntry) (behind : List HistoryEntry) (e : HistoryEntry) → StandsInLog (before ++ at ∷ behind) e
    → StandsInLog before e ⊎ ((e ≡ at) ⊎ StandsInLog behind e)
around [] at behind e s = inr (first_or_behind at e behind s)
around (x ∷ before) at behind e s = ⊎_elim
    (λ (is : e ≡ x). inl ([], before, ap (λ y. y ∷ before) (sym is)))
    (λ (more : StandsInLog (before ++ at ∷ behind) e). ⊎_elim (λ (front : StandsInLog before e). inl (stands_behind x e before front)) inr (around before at behind e more))
    (first_or_behind x e (before ++ at ∷ behind) s)

module _ (others_stay : OthersStay) (began : Beginning) (key : List ℕ) where
  -- ---- what an entry does that may not change the key's item
  apart_stays : (m : Plain) (step : KeyStep) (now : ℕ) (reply : Reply) → IsOnKey step → IsRight m (Stepped step now reply) → key ≢ key_of step
      → get (next began m (Stepped step now reply)).items key ≡ get m.items key
  apart_stays m step now reply on right ne =
      ap (λ o. get (left_by m o).items key) right.1 ∙ others_stay m right.0 step now reply key on right.1 ne

  pub spares : (m : Plain) (what : Operation) → IsRight m what → (MayChange began key what → ⊥) → get (next began m what).items key ≡ get m.items key
  spares m (Stepped (Flush delay) now reply) right not_may = absurd (not_may tt)
  spares m (Stepped (Read other) now (Hit flags unique block)) right not_may = ⊎_elim
      (λ (is : other ≡ key). ap (λ o. get (left_by m o).items key) right.1 ∙ subst (λ k. get right.0.items k ≡ get m.items k) is (hit_leaves m right.0 other now flags unique block right.1))
      (λ (ne : other ≢ key). apart_stays m (Read other) now (Hit flags unique block) tt right (λ e. ne (sym e)))
      (one_or_other other key)
  spares m (Stepped step now reply) right not_may = apart_stays m step now reply tt right (λ e. not_may (sym e))
  spares m (Purged shelf now) right not_may = get_kept m.items (λ k. not (eqb (shelf_in began k) shelf) || is_some (alive m.cut now (get m.items k))) key
      ∙ ap (λ b. cond (not b || is_some (alive m.cut now (get m.items key))) (get m.items key) None) (ne_eqb (shelf_in began key) shelf not_may)

  -- none of the entries may change the key's item
  abbrev Spared : List HistoryEntry → Type 0
  Spared es = (e : HistoryEntry) → StandsInLog es e → MayChange began key e.what → ⊥

  all_spare : (m : Plain) (es : List HistoryEntry) → IsLegal began m es → Spared es → get (after began m es).items key ≡ get m.items key
  all_spare m [] legal spared = refl
  all_spare m (e ∷ es) legal spared =
      all_spare (next began m e.what) es legal.1 (λ x s. spared x (stands_behind e x es s)) ∙ spares m e.what legal.0 (spared e ([], es, refl))

  -- the last entry that may change it
  record Last (es : List HistoryEntry) : Type 0 where
    before : List HistoryEntry
    last : HistoryEntry
    between : List HistoryEntry
    is : es ≡ before ++ last ∷ between
    changes : MayChange began key last.what
    spared : Spared between

  last_or_none : (es : List HistoryEntry) → Last es ⊎ Spared es
  last_or_none [] = inr (λ e s. absurd (none_stands e s))
  last_or_none (x ∷ es) = ⊎_elim
      (λ (l : Last es). inl (record { before = x ∷ l.before; last = l.last; between = l.between; is = ap (λ ys. x ∷ ys) l.is; changes = l.changes; spared = l.spared }))
      (λ (all : Spared es). ⊎_elim
      (λ (may : MayChange began key x.what). inl (record { before = []; last = x; between = es; is = refl; changes = may; spared = all }))
      (λ (not_may : MayChange began key x.what → ⊥). inr
      (λ e s. ⊎_elim (λ (is : e ≡ x). subst (λ (y : HistoryEntry). MayChange began key y.what → ⊥) (sym is) not_may) (λ (t : StandsInLog es e). all e t) (first_or_behind x e es s)))
      (may_or_not began key x.what))
      (last_or_none es)

  -- ---- a read
  module _ (log : List HistoryEntry) (p : Past) (now : ℕ) (reply : Reply) where
    abbrev read : HistoryEntry
    read = entry_of p (Stepped (Read key) now reply)

    told_front : (front rest : List HistoryEntry) → IsLegal began began.plain (front ++ read ∷ rest) → reply ≡ read_of began front now (item_after began front key)
    told_front front rest legal = let right = (legal_parts began began.plain front (read ∷ rest) legal).1.0 in
        read_told (after began began.plain front) right.0 key now reply right.1

    told_last : (before between rest : List HistoryEntry) (last : HistoryEntry) → IsLegal began began.plain ((before ++ last ∷ between) ++ read ∷ rest) → Spared between
        → reply ≡ read_of began (before ++ last ∷ between) now (item_after began (before ++ last ∷ []) key)
    told_last before between rest last legal spared =
        let front : List HistoryEntry = before ++ last ∷ between in
        let parts = (legal_parts began began.plain before (last ∷ between) (legal_parts began began.plain front (read ∷ rest) legal).0).1 in
        let m : Plain = next began (after began began.plain before) last.what in
        let behind = all_spare m between parts.1 spared in
        let whole : after began began.plain front ≡ after began m between = after_parts began began.plain before (last ∷ between) in
        let there : after began began.plain (before ++ last ∷ []) ≡ m = after_parts began began.plain before (last ∷ []) in
        let one : item_after began front key ≡ item_after began (before ++ last ∷ []) key = ap (λ (s : Plain). get s.items key) whole ∙ behind ∙ sym (ap (λ (s : Plain). get s.items key) there) in
        told_front front rest legal ∙ ap (read_of began front now) one

    latest_of : (front rest : List HistoryEntry) → log ≡ front ++ read ∷ rest → IsLegal began began.plain log → Ordered front p → Last front → ReadsLatest began log p key now reply read
    latest_of front rest is legal ordered l =
        let whole : log ≡ (l.before ++ l.last ∷ l.between) ++ read ∷ rest = is ∙ ap (λ es. es ++ read ∷ rest) l.is in
        record {
          last = l.last;
          is_told = record {
            places = record { before = l.before; between = l.between; rest = rest; is = whole };
            changes = l.changes;
            spared = l.spared;
            told = told_last l.before l.between rest l.last (subst (IsLegal began began.plain) whole legal) l.spared;
          };
          latest = λ e has may. ⊎_elim inr
              (λ (t : (e ≡ l.last) ⊎ StandsInLog l.between e). ⊎_elim inl (λ (s : StandsInLog l.between e). absurd (l.spared e s may)) t)
              (around l.before l.last l.between e (subst (λ es. StandsInLog es e) l.is (stands_in p front e ordered has)));
        }

    reads_latest : (known : HistoryEntry) → IsLegal began began.plain log → KeptBy log (with_call p (Read key) now reply) → Has p known → MayChange began key known.what
        → ReadsLatest began log p key now reply (entry_of p (Stepped (Read key) now reply))
    reads_latest known legal kept has may =
        let o = kept.ordered in
        ⊎_elim (latest_of o.0 o.1 o.2 legal o.3) (λ (none : Spared o.0). absurd (none known (stands_in p o.0 known o.3 has) may)) (last_or_none o.0)

-- the law's clauses
pub read_latest : OthersStay → (began : Beginning) (log : List HistoryEntry) (p : Past) (key : List ℕ) (now : ℕ) (reply : Reply) (known : HistoryEntry)
    → IsLegal began began.plain log → KeptBy log (with_call p (Read key) now reply) → Has p known → MayChange began key known.what
    → ReadsLatest began log p key now reply (entry_of p (Stepped (Read key) now reply))
read_latest stay began log p key now reply known = reads_latest stay began key log p now reply known

-- ---- what an entry left
module _ (began : Beginning) (before behind : List HistoryEntry) (e : HistoryEntry) (legal : IsLegal began began.plain (before ++ e ∷ behind)) where
  abbrev there : Plain
  there = after began began.plain before

  decided_right : (what : Operation) → e.what ≡ what → IsRight there what
  decided_right what is = subst (IsRight (after began began.plain before)) is (legal_parts began began.plain before (e ∷ behind) legal).1.0

  left_at : (what : Operation) (key : List ℕ) → e.what ≡ what → item_after began (before ++ e ∷ []) key ≡ get (next began there what).items key
  left_at what key is = ap (λ (s : Plain). get s.items key) (after_parts began began.plain before (e ∷ [])) ∙ ap (λ w. get (next began (after began began.plain before) w).items key) is

  given_at : (step : KeyStep) (then : ℕ) (item : Item) → e.what ≡ Stepped step then Stored
      → item_given step then (after began began.plain before).next_unique ≡ Some item → item_after began (before ++ e ∷ []) (key_of step) ≡ Some item
  given_at step then item is gives =
      let right = decided_right (Stepped step then Stored) is in
      left_at (Stepped step then Stored) (key_of step) is ∙ ap (λ o. get (left_by (after began began.plain before) o).items (key_of step)) right.1
      ∙ given_left step then item (after began began.plain before) right.0 gives right.1

  dropped_at : (key : List ℕ) (then : ℕ) (reply : Reply) → e.what ≡ Stepped (Delete key) then reply → item_after began (before ++ e ∷ []) key ≡ None
  dropped_at key then reply is =
      let right = decided_right (Stepped (Delete key) then reply) is in
      left_at (Stepped (Delete key) then reply) key is ∙ ap (λ o. get (left_by (after began began.plain before) o).items key) right.1
      ∙ deleted_drops (after began began.plain before) right.0 key then reply right.1

pub given_is_left : (began : Beginning) (log before behind : List HistoryEntry) (write : HistoryEntry) (step : KeyStep) (then : ℕ) (item : Item)
    → IsLegal began began.plain log → log ≡ before ++ write ∷ behind → write.what ≡ Stepped step then Stored → item_given step then (after began began.plain before).next_unique ≡ Some item
    → item_after began (before ++ write ∷ []) (key_of step) ≡ Some item
given_is_left began log before behind write step then item legal is = given_at began before behind write (subst (IsLegal began began.plain) is legal) step then item

pub deleted_is_gone : (began : Beginning) (log before behind : List HistoryEntry) (e : HistoryEntry) (key : List ℕ) (then : ℕ) (reply : Reply)
    → IsLegal began began.plain log → log ≡ before ++ e ∷ behind → e.what ≡ Stepped (Delete key) then reply → item_after began (before ++ e ∷ []) key ≡ None
deleted_is_gone began log before behind e key then reply legal is = dropped_at began before behind e (subst (IsLegal began began.plain) is legal) key then reply

-- a step on a key that stored may change that key's item
may_stored : (began : Beginning) (step : KeyStep) (then : ℕ) → IsOnKey step → MayChange began (key_of step) (Stepped step then Stored)
may_stored began (Flush delay) then on = absurd on
may_stored began step then on = refl

pub write_read : OthersStay → (began : Beginning) (log : List HistoryEntry) (p : Past) (now : ℕ) (reply : Reply) (step : KeyStep) (then : ℕ) (write : HistoryEntry)
    → IsLegal began began.plain log → KeptBy log (with_call p (Read (key_of step)) now reply) → Has p write → write.what ≡ Stepped step then Stored → IsOnKey step
    → ReadsWrite began log now reply step then write (entry_of p (Stepped (Read (key_of step)) now reply))
write_read stay began log p now reply step then write legal kept has stored on =
    let key : List ℕ = key_of step in
    let read : HistoryEntry = entry_of p (Stepped (Read key) now reply) in
    let may = subst (MayChange began key) (sym stored) (may_stored began step then on) in
    let r = read_latest stay began log p key now reply write legal kept has may in
    let places = r.is_told.places in
    let gives : (w : StandsBefore log write read) (item : Item) → item_given step then (after began began.plain w.before).next_unique ≡ Some item
    → item_after began (w.before ++ write ∷ []) key ≡ Some item =
    λ w item. given_at began w.before w.between write
    (legal_parts began began.plain (w.before ++ write ∷ w.between) (read ∷ w.rest) (subst (IsLegal began began.plain) w.is legal)).0 step then item stored in
    ⊎_elim
    (λ (is : write ≡ r.last).
    let told = subst (λ (e : HistoryEntry). IsTold began log key now reply e read) (sym is) r.is_told in
    record { places = told.places; given = gives told.places; told = inl told.told })
    (λ (s : StandsInLog places.before write).
    let stands : StandsBefore log write read = record {
      before = s.0;
      between = s.1 ++ r.last ∷ places.between;
      rest = places.rest;
      is = places.is ∙ ap (λ es. (es ++ r.last ∷ places.between) ++ read ∷ places.rest) s.2 ∙ ap (λ es. es ++ read ∷ places.rest) (append_assoc s.0 (write ∷ s.1) (r.last ∷ places.between));
    } in
    record { places = stands; given = gives stands; told = inr (r.last, (s.1, places.between, refl), r.is_told.changes) })
    (r.latest write has may)

-- ---- what a hit tells was written
module _ (others_stay : OthersStay) (began : Beginning) (key : List ℕ) (flags unique : ℕ) (block : List ℕ) where
  -- the content was there before what was decided, or that wrote it
  abbrev pub Was : Plain → Operation → Type 0
  Was m what = HasItem m key flags unique block ⊎ (Wrote key what × (unique ≡ m.next_unique))

  here_was : (m new : Plain) (step : KeyStep) (now : ℕ) (reply : Reply) → stepped m step now ≡ Answered reply new → key_of step ≡ key
      → HasItem new key flags unique block → Was m (Stepped step now reply)
  here_was m new step now reply is at h =
      subst (λ k. HasItem new k flags unique block → HasItem m k flags unique block ⊎ (Wrote k (Stepped step now reply) × (unique ≡ m.next_unique))) at
      (subst (λ o. Traces flags unique block m step now o) is (stepped_traces flags unique block m step now)) h

  there_was : (m new : Plain) (step : KeyStep) (now : ℕ) (reply : Reply) → IsOnKey step → plain m step now ≡ Answered reply new → key ≢ key_of step
      → HasItem new key flags unique block → Was m (Stepped step now reply)
  there_was m new step now reply on is ne h = inl (h.0, sym (others_stay m new step now reply key on is ne) ∙ h.1, h.2, h.3, h.4)

  on_key_was : (m new : Plain) (step : KeyStep) (now : ℕ) (reply : Reply) → IsOnKey step → plain m step now ≡ Answered reply new
      → stepped m step now ≡ Answered reply new → HasItem new key flags unique block → Was m (Stepped step now reply)
  on_key_was m new step now reply on is same_is h = ⊎_elim
      (λ (at : key_of step ≡ key). here_was m new step now reply same_is at h)
      (λ (ne : key_of step ≢ key). there_was m new step now reply on is (λ e. ne (sym e)) h)
      (one_or_other (key_of step) key)

  kept_item : (items : Items) (keep : List ℕ → Bool) (i : Item) → get (retain_keys items keep) key ≡ Some i → get items key ≡ Some i
  kept_item items keep i is = kept_was (keep key) (get items key) i (sym (get_kept items keep key) ∙ is)

  flushed_was : (b : Bool) (m once later : Plain) (i : Item) → once.items ≡ empty → (get later.items key ≡ Some i → get m.items key ≡ Some i)
      → get (cond b once later).items key ≡ Some i → get m.items key ≡ Some i
  flushed_was true m once later i none keeps is = absurd (none_some i (sym (ap (λ (x : Items). get x key) none ∙ get-empty order key) ∙ is))
  flushed_was false m once later i none keeps is = keeps is

  was : (m new : Plain) (step : KeyStep) (now : ℕ) (reply : Reply) → plain m step now ≡ Answered reply new → HasItem new key flags unique block → Was m (Stepped step now reply)
  was m new (Flush delay) now reply is h =
      let left : get (flushed delay m now).items key ≡ Some h.0 = ap (λ o. get (left_by m o).items key) is ∙ h.1 in
      inl (h.0, flushed_was (eqb delay 0) m _ _ h.0 refl (kept_item m.items (λ k. is_some (alive m.cut now (get m.items k))) h.0) left, h.2, h.3, h.4)
  was m new step now reply is h = on_key_was m new step now reply tt is is h

  pub decided_was : (m : Plain) (what : Operation) → IsRight m what → HasItem (next began m what) key flags unique block → Was m what
  decided_was m (Stepped step now reply) right h = was m right.0 step now reply right.1 (subst (λ o. HasItem (left_by m o) key flags unique block) right.1 h)
  decided_was m (Purged shelf now) right h = inl (h.0, kept_item m.items (λ k. not (eqb (shelf_in began k) shelf) || is_some (alive m.cut now (get m.items k))) h.0 h.1, h.2, h.3, h.4)

  -- one of the entries wrote it, from a state on
  record Writer (m : Plain) (es : List HistoryEntry) : Type 0 where
    before : List HistoryEntry
    write : HistoryEntry
    rest : List HistoryEntry
    stands : es ≡ before ++ write ∷ rest
    wrote : Wrote key write.what
    drew : unique ≡ (after began m before).next_unique
    left : HasItem (after began m (before ++ write ∷ [])) key flags unique block

  writer : (m : Plain) (es : List HistoryEntry) → IsLegal began m es → HasItem (after began m es) key flags unique block → HasItem m key flags unique block ⊎ Writer m es
  writer m [] legal h = inl h
  writer m (e ∷ es) legal h =
      let new : Plain = next began m e.what in ⊎_elim
      (λ (there : HasItem new key flags unique block). ⊎_elim inl
      (λ (w : Wrote key e.what × (unique ≡ m.next_unique)). inr (record { before = []; write = e; rest = es; stands = refl; wrote = w.0; drew = w.1; left = there }))
      (decided_was m e.what legal.0 there))
      (λ (w : Writer new es). inr (record { before = e ∷ w.before; write = w.write; rest = w.rest; stands = ap (λ ys. e ∷ ys) w.stands; wrote = w.wrote; drew = w.drew; left = w.left }))
      (writer new es legal.1 h)

  written_or_began : (front : List HistoryEntry) → IsLegal began began.plain front → HasItem (after began began.plain front) key flags unique block
      → HasItem began.plain key flags unique block ⊎ IsWrittenIn began front key flags unique block
  written_or_began front legal h = ⊎_elim inl
      (λ (w : Writer began.plain front). inr (record { before = w.before; write = w.write; rest = w.rest; stands = w.stands; wrote = w.wrote; drew = w.drew; left = w.left }))
      (writer began.plain front legal h)

pub hit_was_written : OthersStay → (began : Beginning) (log front rest : List HistoryEntry) (read : HistoryEntry) (step : KeyStep) (now flags unique : ℕ) (block : List ℕ)
    → IsLegal began began.plain log → log ≡ front ++ read ∷ rest → read.what ≡ Stepped step now (Hit flags unique block)
    → HasItem began.plain (key_of step) flags unique block ⊎ IsWrittenIn began front (key_of step) flags unique block
hit_was_written stay began log front rest read step now flags unique block legal is what =
    let parts = legal_parts began began.plain front (read ∷ rest) (subst (IsLegal began began.plain) is legal) in
    let m : Plain = after began began.plain front in
    let right = subst (IsRight m) what parts.1.0 in
    written_or_began stay began (key_of step) flags unique block front parts.0 (hit_shows flags unique block m right.0 step now right.1)
