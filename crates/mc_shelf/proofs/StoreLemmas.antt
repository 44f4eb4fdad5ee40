-- A store: what a change of one of its shelves, or of all, makes of the state that its parts keep.
use Rattle.mc_shelf.proofs.Common.{◌-◌, ◌<◌, ◌^◌, ◌∙◌, ◌≡◌, alive, Answered, ap, ArePartsOf, arith, block_of, Bool, changed, charge, cond, cond-false, cond-true, count-empty, DeskState}
use Rattle.mc_shelf.proofs.Common.{Entry, eqb, Err, false, get, get-empty, get_or-replicate, get_or_from_slice_get, GoesByStep, GoesTo, has_room, IfOk, IsDeskOf, IsOnKey, IsShelfOf, IsSpent}
use Rattle.mc_shelf.proofs.Common.{keeps_chunk, key_of, KeyStep, lefts, length, length-map, length-replicate, List, ltb, map, map-set, need_for, nothing_held, Ok, on_key, Option, option_map}
use Rattle.mc_shelf.proofs.Common.{out_of, Outcome, Plain, plain, plain_of, refl, replicate, Reply, Result, Row, row_of, same_Some, Settings, shelf_of, ShelfContent, ShelfState}
use Rattle.mc_shelf.proofs.Common.{slice_get-map, slice_get_read, slice_index, slice_set, Some, Spent, StandsAt, starting, StepFault, StepTaken, subst, suc, sym, true, untouched}
use Rattle.mc_shelf.proofs.Common.{without_dead, Writes, written_block, zero, ℕ}
use Rattle.std.proofs.Common.{slice_get, slice_index_or, OnErr}
use Rattle.mc_shelf.proofs.KeyLemmas.{order}
use Rattle.mc_shelf.proofs.StandLemmas.{base_is}
use Rattle.mc_shelf.proofs.PartLemmas.{are_kept, goes_by_step, parts_go, plain_is}

-- ---- a new store

of_replicate : {A : Type 0} (n k : ℕ) (x y : A) → slice_get (replicate n x) k ≡ Some y → y ≡ x
of_replicate zero k x y there = cc
of_replicate (suc n) zero x y there = sym (same_Some x y there)
of_replicate (suc n) (suc k) x y there = of_replicate n k x y there

pub new_parts : {hash_of : List ℕ → ℕ} {count pages greatest next : ℕ} {list : List ShelfState} {desk : DeskState} → 0 < count
    → map (λ shelf. shelf.content) list ≡ replicate count (nothing_held greatest) → desk ≡ record { slab = untouched pages; next_unique = next }
    → ArePartsOf hash_of (starting pages greatest next) list count desk
new_parts {hash_of} {count} {pages} {greatest} {next} {list} some contents new_desk = record {
  number = sym (length-map list (λ (s : ShelfState). s.content)) ∙ ap length contents ∙ length-replicate count (nothing_held greatest);
  some_shelf = some;
  each = λ at shelf here.
      let content_is : shelf.content ≡ nothing_held greatest =
      of_replicate count at (nothing_held greatest) shelf.content
      (sym (ap (λ (l : List ShelfContent). slice_get l at) contents) ∙ slice_get-map (λ (s : ShelfState). s.content) list at ∙ ap (option_map (λ (s : ShelfState). s.content)) here) in
      subst (IsShelfOf hash_of count (starting pages greatest next) at) (sym content_is) (record {
        greatest = refl;
        cut = refl;
        items = λ key own. refl;
        apart = λ key other. get-empty order key;
        hashes = λ key stored found.
            let gone = get-empty {X = ℕ} order key in
            cc;
      });
  account = record {
    next_unique = ap (λ (d : DeskState). d.next_unique) new_desk;
    limit = ap (λ (d : DeskState). d.slab.limit) new_desk;
    pages = ap (λ (d : DeskState). d.slab.pages) new_desk;
    out = λ class is. ap (λ (d : DeskState). out_of d.slab class) new_desk ∙ get_or-replicate 40 (class - 1) 0 0 (omega (arith, is.0, is.1)) ∙ sym (count-empty class);
  };
}

-- ---- the numbers are spent, of any state that has the key's item, the cut, the greatest charge and the next number

-- a write is out of numbers where it is not too large and none is left, and there alone
write_spent : (large spent stays room : Bool) (p q r t : Reply) (w x y z : Plain)
    → cond large (Answered p w) (cond spent Spent (cond stays (Answered q x) (cond room (Answered r y) (Answered t z)))) ≡ Spent → (large ≡ false) × (spent ≡ true)
write_spent true spent stays room p q r t w x y z is = cc
write_spent false true stays room p q r t w x y z is = (refl, refl)
write_spent false false true room p q r t w x y z is = cc
write_spent false false false true p q r t w x y z is = cc
write_spent false false false false p q r t w x y z is = cc

not_written : (large spent : Bool) (x y : Outcome) → large ≡ false → spent ≡ true → cond large x (cond spent Spent y) ≡ Spent
not_written large spent x y fits none = cond-false large x (cond spent Spent y) fits ∙ cond-true spent Spent y none

changed_spent : (row : Row) (step : KeyStep) (item : Option Entry) (a b : Plain) (now : ℕ) → a.greatest ≡ b.greatest → a.next_unique ≡ b.next_unique
    → changed row step item a now ≡ Spent → changed row step item b now ≡ Spent
changed_spent (Writes flags expiry body) step item a b now greatest number is =
    let size = charge (key_of step) (written_block body (block_of step) item) in
    let so = write_spent (ltb a.greatest size) (eqb a.next_unique (2 ^ 64 - 1)) (keeps_chunk body (key_of step) item) (has_room a (need_for size)) _ _ _ _ _ _ _ _ is in
    let fits : ltb b.greatest size ≡ false = ap (λ n. ltb n size) (sym greatest) ∙ so.0 in
    let none : eqb b.next_unique (2 ^ 64 - 1) ≡ true = ap (λ n. eqb n (2 ^ 64 - 1)) (sym number) ∙ so.1 in
    not_written (ltb b.greatest size) (eqb b.next_unique (2 ^ 64 - 1)) _ _ fits none
changed_spent row step item a b now greatest number is = cc

pub spent_there : (step : KeyStep) (now : ℕ) {shelf : ShelfContent} {desk : DeskState} {a : Plain} → IsOnKey step → StandsAt (key_of step) shelf desk a
    → plain a step now ≡ Spent → IsSpent step now shelf desk
spent_there step now {shelf} {desk} {a} on at_a is b at_b =
    let key = key_of step in
    let item = alive a.cut now (get a.items key) in
    let same : item ≡ alive b.cut now (get b.items key) = λ i. alive ((at_a.cut ∙ sym at_b.cut) i) now ((at_a.item ∙ sym at_b.item) i) in
    on_key b step now on
    ∙ subst (λ o. changed (row_of step now o) step o (without_dead o key b) now ≡ Spent) same
    (changed_spent (row_of step now item) step item (without_dead item key a) (without_dead item key b) now
    (ap (λ (s : Plain). s.greatest) (base_is item key a) ∙ at_a.greatest ∙ sym at_b.greatest ∙ sym (ap (λ (s : Plain). s.greatest) (base_is item key b)))
    (ap (λ (s : Plain). s.next_unique) (base_is item key a) ∙ at_a.next_unique ∙ sym at_b.next_unique ∙ sym (ap (λ (s : Plain). s.next_unique) (base_is item key b)))
    (sym (on_key a step now on) ∙ is))

-- ---- a store's parts after a change

-- a shelf has fewer entries left to move
pub left_after : (list : List ShelfState) (at : ℕ) {shelf : ShelfState} (shelf' : ShelfState) (moved : ℕ) → slice_get list at ≡ Some shelf
    → shelf'.left ≡ shelf.left - moved → lefts (slice_set list at shelf') ≡ slice_set (lefts list) at (slice_index (lefts list) at - moved)
left_after list at {shelf} shelf' moved here less =
    let left_of = λ (s : ShelfState). s.left in
    let was : slice_index (lefts list) at ≡ shelf.left = get_or_from_slice_get (lefts list) at shelf.left 0 (slice_get-map left_of list at ∙ ap (option_map left_of) here) in
    map-set left_of list at shelf' ∙ ap (slice_set (lefts list) at) (less ∙ ap (λ n. n - moved) (sym was))

module _ {hash_of : List ℕ → ℕ} {list : List ShelfState} {desk : DeskState} (settings : Settings) (parts : ArePartsOf hash_of (plain_of settings list desk) list settings.shelves desk) where
  abbrev state : Plain
  state = plain_of settings list desk

  pub shelf_here : {at : ℕ} {shelf : ShelfState} → at < settings.shelves → shelf ≡ slice_index_or list at shelf → slice_get list at ≡ Some shelf
  shelf_here {at} {shelf} inside read = slice_get_read list settings.shelves at shelf (sym parts.number) inside read

  -- one shelf and the desk have changed
  module _ {at : ℕ} {new : Plain} {desk' : DeskState} (shelf' : ShelfState) (goes : GoesTo hash_of settings.shelves at state new shelf'.content desk') where
    pub kept_after : ArePartsOf hash_of (plain_of settings (slice_set list at shelf') desk') (slice_set list at shelf') settings.shelves desk'
    kept_after = are_kept settings goes.greatest goes.limit (parts_go shelf' parts goes)

    pub plain_after : plain_of settings (slice_set list at shelf') desk' ≡ new
    plain_after = plain_is settings goes.greatest goes.limit (parts_go shelf' parts goes)

  module _ {at : ℕ} {shelf : ShelfState} (here : slice_get list at ≡ Some shelf) where
    -- they hold what they held
    pub goes_nowhere : {content : ShelfContent} {desk' : DeskState} → content ≡ shelf.content → desk' ≡ desk → GoesTo hash_of settings.shelves at state state content desk'
    goes_nowhere same same_desk = record {
      greatest = refl;
      limit = refl;
      own = subst (IsShelfOf hash_of settings.shelves state at) (sym same) (parts.each at shelf here);
      account = subst (IsDeskOf state) (sym same_desk) parts.account;
      others = λ k still other part. part;
    }

    -- a step was taken on one of the shelf's keys, or not
    module _ {hash : ℕ} (step : KeyStep) (now : ℕ) (shelf' : ShelfState) (desk' : DeskState) (mine : shelf_of hash_of settings.shelves (key_of step) ≡ at)
        (hashed : hash ≡ hash_of (key_of step)) (on : IsOnKey step) where
      abbrev IsTakenHere : Reply → Type 0
      IsTakenHere reply = StepTaken step now hash shelf.content desk reply shelf'.content desk'

      abbrev IsAsBefore : Type 0
      IsAsBefore = (shelf'.content ≡ shelf.content) × (desk' ≡ desk)

      goes : (reply : Reply) → IsTakenHere reply → GoesByStep hash_of settings.shelves at step now state reply shelf'.content desk'
      goes reply took =
          goes_by_step step mine (parts.each at shelf here) parts.account on
          (subst (λ (h : ℕ). StepTaken step now h shelf.content desk reply shelf'.content desk') hashed took)

      pub parts_stepped : (result : Result Reply StepFault) → IfOk result IsTakenHere → OnErr result IsAsBefore
          → ArePartsOf hash_of (plain_of settings (slice_set list at shelf') desk') (slice_set list at shelf') settings.shelves desk'
      parts_stepped (Ok reply) took same = kept_after shelf' (goes reply took).goes
      parts_stepped (Err fault) took same = kept_after shelf' (goes_nowhere same.0 same.1)

      pub took_step : {reply : Reply} → IsTakenHere reply → plain state step now ≡ Answered reply (plain_of settings (slice_set list at shelf') desk')
      took_step {reply} took = (goes reply took).answered ∙ ap (Answered reply) (sym (plain_after shelf' (goes reply took).goes))
