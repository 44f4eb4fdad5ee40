-- What a step on a key leaves under it.
use Rattle.std.proofs.Common.{◌≡◌, ◌⊎◌, inl, inr, ℕ, Bool, true, false, cond, eqb, ltb, List, Option, Some, None, sym, refl, ap, ◌∙◌, subst, ℤ}
use Rattle.mc_shared.proofs.Words.{get, Expiry, expiry_of, is_dead, KeyStep, Cas, Read, Delete, Flush, Row, Reads, Touches, Deletes, Writes, Counted, Reply, Stored, Hit}
use Rattle.mc_shared.proofs.Words.{key_of, Plain, Outcome, Answered, Spent, plain, stepped, changed, row_of, given, write_reply, written, with_chunk}
use Rattle.mc_shared.proofs.Words.{block_need, without_dead, expiring, keeps_chunk, written_block, block_of, standing, alive, hit_of, Entry as Item, Stepped}
use Rattle.mc_laws.specs.Laws.{HasItem}
use Rattle.mc_shared.proofs.Words.{found-next, get_put, get_gone}
use Rattle.mc_laws.specs.Laws.{Wrote, item_given}
use Rattle.mc_protocol.specs.declared.step.Verb.TheVariants.{Set, Add, Replace}
use Rattle.mc_protocol.specs.declared.step.KeyStep.TheVariants.{Store}
use Rattle.mc_protocol.specs.declared.row.Row.TheVariants.{Refuses}
use Rattle.mc_protocol.specs.declared.row.Body.{Body}
use Rattle.mc_protocol.specs.declared.row.Body.TheVariants.{Given, Appended, Prepended}
use Rattle.mc_protocol.specs.declared.reply.Reply.TheVariants.{TooLarge, NoChunk}
use Rattle.mc_protocol.specs.Plain.{wrote, has_room, charge}
use Rattle.mc_protocol.specs.declared.row.Refusal.TheVariants as refusal

pub some_is : {A : Type 0} (a b : A) → Some a ≡ Some b → a ≡ b
some_is a b e = cc e

pub none_some : {A : Type 0} (a : A) → ◌≡◌ {A = Option A} None (Some a) → ⊥
none_some a e = cc e

-- what is kept where a test may drop it was there before
pub kept_was : {A : Type 0} (b : Bool) (o : Option A) (x : A) → cond b o None ≡ Some x → o ≡ Some x
kept_was true o x e = e
kept_was false o x e = absurd (none_some x e)

pub alive_was : (cut : Option ℕ) (now : ℕ) (o : Option Item) (i : Item) → alive cut now o ≡ Some i → o ≡ Some i
alive_was cut now None i e = e
alive_was cut now (Some x) i e = elim (is_dead x.expiry x.updated cut now) as (λ b. cond b None (Some x) ≡ Some i → Some x ≡ Some i) [ true ↦ λ h. absurd (none_some i h) | false ↦ λ h. h ] e

-- however a write comes out
pub wrote_so : (P : Outcome → Type 0) (stays : Bool) (reply : Reply) (key : List ℕ) (flags : ℕ) (expiry : Expiry) (block : List ℕ) (m : Plain) (now : ℕ)
    → P (Answered TooLarge m) → P Spent → P (Answered reply (written m key flags expiry block now))
    → P (Answered reply (written (with_chunk m (block_need key block)) key flags expiry block now)) → P (Answered NoChunk m) → P (wrote stays reply key flags expiry block m now)
wrote_so P stays reply key flags expiry block m now large spent kept taken none =
    by_tests (ltb m.greatest (charge key block)) (eqb m.next_unique 18446744073709551615) stays (has_room m (block_need key block))
  where
    by_tests : (a b c d : Bool) → P (cond a (Answered TooLarge m) (cond b Spent (cond c (Answered reply (written m key flags expiry block now))
        (cond d (Answered reply (written (with_chunk m (block_need key block)) key flags expiry block now)) (Answered NoChunk m)))))
    by_tests true b c d = large
    by_tests false true c d = spent
    by_tests false false true d = kept
    by_tests false false false true = taken
    by_tests false false false false = none

-- ---- what is left of a content under the step's key
module _ (flags unique : ℕ) (block : List ℕ) where
  -- the item that stands is the one under the key
  Stands : Option Item → List ℕ → Plain → Type 0
  Stands item key old = (i : Item) → item ≡ Some i → get old.items key ≡ Some i

  -- the content was there, or the step wrote it
  abbrev pub Traces : Plain → KeyStep → ℕ → Outcome → Type 0
  Traces old step now (Answered reply new) = HasItem new (key_of step) flags unique block → HasItem old (key_of step) flags unique block
      ⊎ (Wrote (key_of step) (Stepped step now reply) × (unique ≡ old.next_unique))
  Traces old step now Spent = Unit {0}

  found_traces : (item : Option Item) (key : List ℕ) (old : Plain) → HasItem (without_dead item key old) key flags unique block → HasItem old key flags unique block
  found_traces None key old h = absurd (none_some h.0 (sym (get_gone old.items key) ∙ h.1))
  found_traces (Some i) key old h = h

  expiring_traces : (item : Option Item) (key : List ℕ) (expiry : Expiry) (old : Plain) → Stands item key old
      → HasItem (expiring item key expiry (without_dead item key old)) key flags unique block → HasItem old key flags unique block
  unfolding Stands
  expiring_traces None key expiry old stands h = found_traces None key old h
  expiring_traces (Some i) key expiry old stands h =
      let put : Item = record i { expiry = expiry } in
      let is : put ≡ h.0 = some_is put h.0 (sym (get_put old.items key put) ∙ h.1) in
      (i, stands i refl, ap (λ (x : Item). x.flags) is ∙ h.2, ap (λ (x : Item). x.unique) is ∙ h.3, ap (λ (x : Item). x.block) is ∙ h.4)

  written_next : (m : Plain) (key : List ℕ) (f : ℕ) (expiry : Expiry) (b : List ℕ) (now : ℕ) → HasItem (written m key f expiry b now) key flags unique block → unique ≡ m.next_unique
  written_next m key f expiry b now h =
      let put : Item = record { flags = f; expiry = expiry; block = b; unique = m.next_unique; updated = now } in
      sym (ap (λ (x : Item). x.unique) (some_is put h.0 (sym (get_put m.items key put) ∙ h.1)) ∙ h.3)

  writes : (body : Body) (step : KeyStep) (now : ℕ) → Wrote (key_of step) (Stepped step now (write_reply body))
  writes Given step now = refl
  writes Appended step now = refl
  writes Prepended step now = refl
  writes (Counted number) step now = refl

  changed_traces : (row : Row) (step : KeyStep) (item : Option Item) (old : Plain) (now : ℕ) → Stands item (key_of step) old
      → Traces old step now (changed row step item (without_dead item (key_of step) old) now)
  changed_traces (Refuses why) step item old now stands = λ h. inl (found_traces item (key_of step) old h)
  changed_traces (Reads None) step item old now stands = λ h. inl (found_traces item (key_of step) old h)
  changed_traces (Reads (Some expiry)) step item old now stands = λ h. inl (expiring_traces item (key_of step) expiry old stands h)
  changed_traces (Touches expiry) step item old now stands = λ h. inl (expiring_traces item (key_of step) expiry old stands h)
  changed_traces Deletes step item old now stands =
      λ h. absurd (none_some h.0 (sym (get_gone (without_dead item (key_of step) old).items (key_of step)) ∙ h.1))
  changed_traces (Writes flags expiry body) step item old now stands =
      let key : List ℕ = key_of step in
      let found : Plain = without_dead item key old in
      let b : List ℕ = written_block body (block_of step) item in
      let next = found-next item key old in
      wrote_so (Traces old step now) (keeps_chunk body key item) (write_reply body) key flags expiry b found now
      (λ h. inl (found_traces item key old h)) tt
      (λ h. inr (writes body step now, written_next found key flags expiry b now h ∙ next))
      (λ h. inr (writes body step now, written_next (with_chunk found (block_need key b)) key flags expiry b now h ∙ next))
      (λ h. inl (found_traces item key old h))

  pub stepped_traces : (old : Plain) (step : KeyStep) (now : ℕ) → Traces old step now (stepped old step now)
  unfolding Stands
  stepped_traces old step now =
      let item = standing old (key_of step) now in
      changed_traces (row_of step now item) step item old now (λ i e. alive_was old.cut now (get old.items (key_of step)) i e)

  -- ---- a hit tells what is there
  abbrev Shows : Plain → List ℕ → Outcome → Type 0
  Shows old key (Answered (Hit f u b) new) = f ≡ flags → u ≡ unique → b ≡ block → HasItem old key flags unique block
  Shows old key (Answered reply new) = Unit {0}
  Shows old key Spent = Unit {0}

  write_shows : (body : Body) (old new : Plain) (key : List ℕ) → Shows old key (Answered (write_reply body) new)
  write_shows Given old new key = tt
  write_shows Appended old new key = tt
  write_shows Prepended old new key = tt
  write_shows (Counted number) old new key = tt

  changed_shows : (row : Row) (step : KeyStep) (item : Option Item) (old found : Plain) (now : ℕ) → Stands item (key_of step) old → Shows old (key_of step) (changed row step item found now)
  unfolding Stands
  changed_shows (Refuses refusal.NotStored) step item old found now stands = tt
  changed_shows (Refuses refusal.Exists) step item old found now stands = tt
  changed_shows (Refuses refusal.NotFound) step item old found now stands = tt
  changed_shows (Refuses refusal.Miss) step item old found now stands = tt
  changed_shows (Refuses refusal.NotNumeric) step item old found now stands = tt
  changed_shows (Reads expiry) step None old found now stands = tt
  changed_shows (Reads expiry) step (Some i) old found now stands = λ f u b. (i, stands i refl, f, u, b)
  changed_shows (Touches expiry) step item old found now stands = tt
  changed_shows Deletes step item old found now stands = tt
  changed_shows (Writes flags expiry body) step item old found now stands =
      wrote_so (Shows old (key_of step)) (keeps_chunk body (key_of step) item) (write_reply body) (key_of step) flags expiry (written_block body (block_of step) item)
      found now tt tt (write_shows body old _ (key_of step)) (write_shows body old _ (key_of step)) tt

  stepped_shows : (old : Plain) (step : KeyStep) (now : ℕ) → Shows old (key_of step) (stepped old step now)
  unfolding Stands
  stepped_shows old step now =
      let item = standing old (key_of step) now in
      changed_shows (row_of step now item) step item old (without_dead item (key_of step) old) now (λ i e. alive_was old.cut now (get old.items (key_of step)) i e)

  plain_shows : (old : Plain) (step : KeyStep) (now : ℕ) → Shows old (key_of step) (plain old step now)
  plain_shows old (Flush delay) now = tt
  plain_shows old step now = stepped_shows old step now

  pub hit_shows : (old new : Plain) (step : KeyStep) (now : ℕ) → plain old step now ≡ Answered (Hit flags unique block) new → HasItem old (key_of step) flags unique block
  hit_shows old new step now is = subst (Shows old (key_of step)) is (plain_shows old step now) refl refl refl

-- ---- a read
abbrev Replies : Reply → Outcome → Type 0
Replies r (Answered reply new) = reply ≡ r
Replies r Spent = ⊥

read_replies : (item : Option Item) (key : List ℕ) (m : Plain) (now : ℕ) → Replies (hit_of item) (changed (row_of (Read key) now item) (Read key) item m now)
read_replies None key m now = refl
read_replies (Some i) key m now = refl

pub read_told : (m new : Plain) (key : List ℕ) (now : ℕ) (reply : Reply) → plain m (Read key) now ≡ Answered reply new → reply ≡ hit_of (standing m key now)
read_told m new key now reply is = subst (Replies (hit_of (standing m key now))) is (read_replies (standing m key now) key (without_dead (standing m key now) key m) now)

-- one that hits leaves the item
abbrev Leaves : Plain → List ℕ → Outcome → Type 0
Leaves old key (Answered (Hit f u b) new) = get new.items key ≡ get old.items key
Leaves old key (Answered reply new) = Unit {0}
Leaves old key Spent = Unit {0}

read_leaves : (item : Option Item) (key : List ℕ) (m : Plain) (now : ℕ) → Leaves m key (changed (row_of (Read key) now item) (Read key) item (without_dead item key m) now)
read_leaves None key m now = tt
read_leaves (Some i) key m now = refl

pub hit_leaves : (m new : Plain) (key : List ℕ) (now flags unique : ℕ) (block : List ℕ) → plain m (Read key) now ≡ Answered (Hit flags unique block) new → get new.items key ≡ get m.items key
hit_leaves m new key now flags unique block is = subst (Leaves m key) is (read_leaves (standing m key now) key m now)

-- ---- a delete
abbrev Drops : List ℕ → Outcome → Type 0
Drops key (Answered reply new) = get new.items key ≡ None
Drops key Spent = Unit {0}

delete_drops : (item : Option Item) (key : List ℕ) (m : Plain) (now : ℕ) → Drops key (changed (row_of (Delete key) now item) (Delete key) item (without_dead item key m) now)
delete_drops None key m now = get_gone m.items key
delete_drops (Some i) key m now = get_gone m.items key

pub deleted_drops : (m new : Plain) (key : List ℕ) (now : ℕ) (reply : Reply) → plain m (Delete key) now ≡ Answered reply new → get new.items key ≡ None
deleted_drops m new key now reply is = subst (Drops key) is (delete_drops (standing m key now) key m now)

-- ---- an item that is stored as it was given
abbrev Gives : List ℕ → Item → Outcome → Type 0
Gives key item (Answered Stored new) = get new.items key ≡ Some item
Gives key item (Answered reply new) = Unit {0}
Gives key item Spent = Unit {0}

module _ (key : List ℕ) (flags : ℕ) (expiry : Expiry) (block : List ℕ) (now : ℕ) where
  abbrev item_of : ℕ → Item
  item_of unique = record { flags = flags; expiry = expiry; block = block; unique = unique; updated = now }

  given_gives : (old : Plain) (o : Option Item) → Gives key (item_of old.next_unique) (wrote false Stored key flags expiry block (without_dead o key old) now)
  given_gives old o =
      let m : Plain = without_dead o key old in
      let gives = get_put m.items key (item_of m.next_unique) ∙ ap (λ n. Some (item_of n)) (found-next o key old) in
      wrote_so (Gives key (item_of old.next_unique)) false Stored key flags expiry block m now tt tt gives gives tt

module _ (key : List ℕ) (flags : ℕ) (exptime : ℤ) (block : List ℕ) (now : ℕ) where
  abbrev stored : ℕ → Item
  stored = item_of key flags (expiry_of exptime now) block now

  gives : (old : Plain) (o : Option Item) → Gives key (stored old.next_unique) (wrote false Stored key flags (expiry_of exptime now) block (without_dead o key old) now)
  gives old o = given_gives key flags (expiry_of exptime now) block now old o

  set_gives : (old : Plain) (o : Option Item)
      → Gives key (stored old.next_unique) (changed (row_of (Store Set key flags exptime block) now o) (Store Set key flags exptime block) o (without_dead o key old) now)
  set_gives old None = gives old None
  set_gives old (Some i) = gives old (Some i)

  add_gives : (old : Plain) (o : Option Item)
      → Gives key (stored old.next_unique) (changed (row_of (Store Add key flags exptime block) now o) (Store Add key flags exptime block) o (without_dead o key old) now)
  add_gives old None = gives old None
  add_gives old (Some i) = tt

  replace_gives : (old : Plain) (o : Option Item)
      → Gives key (stored old.next_unique) (changed (row_of (Store Replace key flags exptime block) now o) (Store Replace key flags exptime block) o (without_dead o key old) now)
  replace_gives old None = tt
  replace_gives old (Some i) = gives old (Some i)

  cas_test : (b : Bool) (known : ℕ) (old : Plain) (o : Option Item)
      → Gives key (stored old.next_unique) (changed (cond b (given flags (expiry_of exptime now)) (Refuses refusal.Exists)) (Cas key flags exptime block known) o (without_dead o key old) now)
  cas_test true known old o = gives old o
  cas_test false known old o = tt

  cas_gives : (known : ℕ) (old : Plain) (o : Option Item)
      → Gives key (stored old.next_unique) (changed (row_of (Cas key flags exptime block known) now o) (Cas key flags exptime block known) o (without_dead o key old) now)
  cas_gives known old None = tt
  cas_gives known old (Some i) = cas_test (eqb i.unique known) known old (Some i)

pub stored_gives : (step : KeyStep) (now : ℕ) (item : Item) (old : Plain) → item_given step now old.next_unique ≡ Some item → Gives (key_of step) item (plain old step now)
stored_gives (Store Set key flags exptime block) now item old e =
    subst (λ (x : Item). Gives key x (plain old (Store Set key flags exptime block) now)) (some_is _ _ e) (set_gives key flags exptime block now old (standing old key now))
stored_gives (Store Add key flags exptime block) now item old e =
    subst (λ (x : Item). Gives key x (plain old (Store Add key flags exptime block) now)) (some_is _ _ e) (add_gives key flags exptime block now old (standing old key now))
stored_gives (Store Replace key flags exptime block) now item old e =
    subst (λ (x : Item). Gives key x (plain old (Store Replace key flags exptime block) now)) (some_is _ _ e) (replace_gives key flags exptime block now old (standing old key now))
stored_gives (Cas key flags exptime block known) now item old e =
    subst (λ (x : Item). Gives key x (plain old (Cas key flags exptime block known) now)) (some_is _ _ e) (cas_gives key flags exptime block now known old (standing old key now))
stored_gives step now item old e = absurd (none_some item e)

pub given_left : (step : KeyStep) (now : ℕ) (item : Item) (old new : Plain) → item_given step now old.next_unique ≡ Some item
    → plain old step now ≡ Answered Stored new → get new.items (key_of step) ≡ Some item
given_left step now item old new e is = subst (Gives (key_of step) item) is (stored_gives step now item old e)
