-- What a change of the key's item makes of a plain state that stands for a shelf and a desk.
use Rattle.mc_shelf.proofs.Common.{◌*◌, ◌+◌, ◌-◌, ◌<◌, ◌^◌, ◌∙◌, ◌≡◌, ◌≢◌, ◌≤◌, alive, Answered, ap, arith, block_need, Bool, changed, charge, chunks_a_page, chunks_a_page-least, chunks_in}
use Rattle.mc_shelf.proofs.Common.{cond_both, count-insert, count-remove, count_of, DeskState, Entry, eq-eqb, eqb, eqb-false, eqb-true, Expiry, false, get, get_or, get_or-set_other}
use Rattle.mc_shelf.proofs.Common.{get_or-set_same, given, has_room, if◌then◌else◌, insert, IsClass, IsDropped, IsOnKey, IsPut, IsSlab, item_need, Items, key_of, KeyStep, le-leb, le-ltb}
use Rattle.mc_shelf.proofs.Common.{leb, length, length-set, List, lt-ltb, made_ready, ne_eqb, NeedState, NoChunk, None, of_class, on_key, Option, out_of, Plain, plain, refl, remove, Reply}
use Rattle.mc_shelf.proofs.Common.{row_at, row_of, set, ShelfContent, SlabState, Some, Spent, StandsAt, stood, subst, sym, taken, TooLarge, true, with_chunk, without_dead, written, wrote, ℕ}
use Rattle.std.proofs.Common.{sum, set-set}
use lib.Seq.{set-get_or}
use Rattle.std.proofs.Math.Nat.{le-mul_of_pos_right}
use Rattle.mc_shelf.proofs.KeyLemmas.{get_gone, get_put}
use Rattle.mc_slab.specs.Slabs as slabs
use Rattle.mc_protocol.specs.Plain as machine

-- so many at the class, and else 0
abbrev pub weight : (class count other : ℕ) → ℕ
weight class count other = if eqb class other then count else 0

pub weight_here : (class count : ℕ) → weight class count class ≡ count
weight_here class count = ap (λ (b : Bool). if b then count else 0) (eq-eqb class class refl)

-- ---- the account of a slab

-- the pages where a class gets what is wanting of a count beside those at hand
abbrev pub pages_after : (class count at_hand : ℕ) → List ℕ → List ℕ
pages_after class count at_hand pages = set pages (class - 1) (get_or pages (class - 1) 0 + (count - at_hand))

-- none is wanting
pub pages_stay : (class count at_hand : ℕ) (pages : List ℕ) → count ≤ at_hand → pages_after class count at_hand pages ≡ pages
pages_stay class count at_hand pages enough =
    let none : get_or pages (class - 1) 0 + (count - at_hand) ≡ get_or pages (class - 1) 0 = omega arith in
    ap (λ (n : ℕ). set pages (class - 1) n) none ∙ set-get_or pages (class - 1) 0

-- pages that give a chunk at least are enough where as many come as are wanting
grown : (pages wanted gives out back count : ℕ) → 1 ≤ gives → back ≤ out → out ≤ pages * gives → wanted ≡ count - (pages * gives - out + back) → count ≤ (pages + wanted) * gives - (out - back)
grown pages wanted gives out back count some least within is =
    let more : wanted ≤ wanted * gives = le-mul_of_pos_right wanted some in
    let sum : (pages + wanted) * gives ≡ pages * gives + wanted * gives = omega arith in
    omega (arith, is, more, sum, least, within)

module _ (slab : SlabState) (class : ℕ) (is_class : IsClass class) where
  out-changed : length slab.out ≡ 40 → (op : ℕ → ℕ → ℕ) → ((n : ℕ) → op n 0 ≡ n) → (count other : ℕ) → IsClass other
      → out_of (slabs.with_out slab class (op (out_of slab class) count)) other ≡ op (out_of slab other) (weight class count other)
  out-changed long op none count other is_other =
      let new = op (out_of slab class) count in
      cond_both (eqb class other) count 0 (λ n. out_of (slabs.with_out slab class new) other ≡ op (out_of slab other) n)
      (λ e. subst (λ (k : ℕ). out_of (slabs.with_out slab class new) k ≡ op (out_of slab k) count) (eqb-true class other e) (get_or-set_same slab.out (class - 1) new 0 (omega arith)))
      (λ e. get_or-set_other slab.out (class - 1) (other - 1) new 0 (λ same. eqb-false class other e (omega arith)) ∙ sym (none (out_of slab other)))

  pub out-given : length slab.out ≡ 40 → (count other : ℕ) → IsClass other → out_of (given slab class count) other ≡ out_of slab other - weight class count other
  out-given long = out-changed long (λ m n. m - n) (λ m. omega arith)

  out-more : length slab.out ≡ 40 → (count other : ℕ) → IsClass other → out_of (slabs.with_out slab class (out_of slab class + count)) other ≡ out_of slab other + weight class count other
  out-more long = out-changed long (λ m n. m + n) (λ m. omega arith)

-- so many are unused, so that there is room
pub room_by_free : (slab : SlabState) (need : NeedState) → need.count ≤ slabs.unused slab need.class → slabs.has_room_with slab need 0 ≡ true
room_by_free slab need l = le-leb need.count (slabs.unused slab need.class + 0 + slabs.pages_left slab * chunks_a_page need.class) (omega (arith, l))

module _ (slab : SlabState) (need : NeedState) (is_class : IsClass need.class) where
  pub out-taken : length slab.out ≡ 40 → (other : ℕ) → IsClass other → out_of (taken slab need) other ≡ out_of slab other + chunks_in need other
  out-taken long other is_other = out-more (made_ready slab need 0) need.class is_class long need.count other is_other

  -- ---- where so many are unused

  pub taken_free : need.count ≤ slabs.unused slab need.class → taken slab need ≡ slabs.with_out slab need.class (out_of slab need.class + need.count)
  taken_free l =
      let enough : need.count ≤ slabs.unused slab need.class + 0 = omega (arith, l) in
      ap (λ (ps : List ℕ). slabs.with_out (record slab { pages = ps }) need.class (out_of slab need.class + need.count))
      (pages_stay need.class need.count (slabs.unused slab need.class + 0) slab.pages enough)

  -- they are taken and given back: the slab is as it was
  pub given_taken : length slab.out ≡ 40 → need.count ≤ slabs.unused slab need.class → given (taken slab need) need.class need.count ≡ slab
  given_taken long l =
      let class = need.class in
      let more : ℕ = out_of slab class + need.count in
      let inside : class - 1 < length slab.out = omega arith in
      let one : get_or (set slab.out (class - 1) more) (class - 1) 0 ≡ more = get_or-set_same slab.out (class - 1) more 0 inside in
      let less : get_or (set slab.out (class - 1) more) (class - 1) 0 - need.count ≡ out_of slab class = omega (arith, one) in
      ap (λ (t : SlabState). given t class need.count) (taken_free l)
      ∙ ap (λ (ys : List ℕ). record slab { out = ys })
      (ap (λ (m : ℕ). set (set slab.out (class - 1) more) (class - 1) m) less ∙ set-set slab.out (class - 1) more (out_of slab class) ∙ set-get_or slab.out (class - 1) 0)

  pub taken_is_slab : IsSlab slab → need.count ≤ slabs.unused slab need.class → IsSlab (taken slab need)
  taken_is_slab is l = subst IsSlab (sym (taken_free l)) record {
    pages = is.pages;
    out = length-set slab.out (need.class - 1) (out_of slab need.class + need.count) ∙ is.out;
    within = λ other is_other. subst (λ (m : ℕ). m ≤ slabs.chunks_of slab other) (sym (out-more slab need.class is_class is.out need.count other is_other))
        (cond_both (eqb need.class other) need.count 0 (λ n. out_of slab other + n ≤ slabs.chunks_of slab other)
        (λ e. subst (λ (k : ℕ). out_of slab k + need.count ≤ slabs.chunks_of slab k) (eqb-true need.class other e) (let within = is.within need.class is_class in omega (arith, l, within)))
        (λ e. let within = is.within other is_other in omega (arith, within)));
    limit = is.limit;
    most = is.most;
  }

  -- ---- where some come back first

  -- so many chunks of its class come back to a slab that was made ready
  abbrev pub came_back : ℕ → SlabState
  came_back back = given (made_ready slab need back) need.class back

  -- then the need's are unused
  pub ready_unused : IsSlab slab → (back : ℕ) → back ≤ out_of slab need.class → need.count ≤ slabs.unused (came_back back) need.class
  ready_unused is back least =
      let class = need.class in
      let wanted : ℕ = slabs.pages_wanted slab need back in
      let pages : get_or (set slab.pages (class - 1) (slabs.pages_of slab class + wanted)) (class - 1) 0 ≡ slabs.pages_of slab class + wanted =
      get_or-set_same slab.pages (class - 1) (slabs.pages_of slab class + wanted) 0 (omega (arith, is.pages)) in
      let out : get_or (set slab.out (class - 1) (out_of slab class - back)) (class - 1) 0 ≡ out_of slab class - back =
      get_or-set_same slab.out (class - 1) (out_of slab class - back) 0 (omega (arith, is.out)) in
      let enough : need.count ≤ (slabs.pages_of slab class + wanted) * chunks_a_page class - (out_of slab class - back) =
      grown (slabs.pages_of slab class) wanted (chunks_a_page class) (out_of slab class) back need.count (chunks_a_page-least class is_class) least (is.within class is_class) refl in
      subst (λ (n : ℕ). need.count ≤ n) (λ i. sym pages i * chunks_a_page class - sym out i) enough

  -- they are taken: its pages are those that it was made ready with
  pub pages-way : IsSlab slab → (back : ℕ) → back ≤ out_of slab need.class → (taken (came_back back) need).pages ≡ pages_after need.class need.count (slabs.unused slab need.class + back) slab.pages
  pages-way is back least =
      let unused = ready_unused is back least in
      pages_stay need.class need.count (slabs.unused (came_back back) need.class + 0) (made_ready slab need back).pages (omega (arith, unused))

  pub out-way : IsSlab slab → (back other : ℕ) → IsClass other → out_of (taken (came_back back) need) other ≡ out_of slab other - weight need.class back other + chunks_in need other
  out-way is back other is_other =
      let long : length (came_back back).out ≡ 40 = length-set slab.out (need.class - 1) (out_of slab need.class - back) ∙ is.out in
      out-more (came_back back) need.class is_class long need.count other is_other
      ∙ ap (λ (n : ℕ). n + chunks_in need other) (out-given (made_ready slab need back) need.class is_class is.out back other is_other)

-- ---- the key's item

-- the items without the key's, where none stands
abbrev pub base : Option Entry → List ℕ → Items → Items
base None key items = remove items key
base (Some item) key items = items

pub base_is : (stands : Option Entry) (key : List ℕ) (s : Plain) → without_dead stands key s ≡ record s { items = base stands key s.items }
base_is None key s = refl
base_is (Some item) key s = refl

-- a step, by the item that stands on the shelf
pub step_is : (step : KeyStep) (now : ℕ) (shelf : ShelfContent) (desk : DeskState) (s : Plain) → IsOnKey step → StandsAt (key_of step) shelf desk s →
    plain s step now ≡ changed (row_at shelf step now) step (stood shelf step now) (record s { items = base (stood shelf step now) (key_of step) s.items }) now
step_is step now shelf desk s on at =
    let key = key_of step in
    on_key s step now on
    ∙ ap (λ (stands : Option Entry). changed (row_of step now stands) step stands (without_dead stands key s) now) (λ i. alive (at.cut i) now (at.item i))
    ∙ ap (λ (t : Plain). changed (row_at shelf step now) step (stood shelf step now) t now) (base_is (stood shelf step now) key s)

module _ (key : List ℕ) (shelf : ShelfContent) (desk : DeskState) (s : Plain) (at : StandsAt key shelf desk s) where
  -- the counts where the key's item is put
  pub counts_put : (stands : Option Entry) (item : Entry) (class : ℕ)
      → count_of (insert (base stands key s.items) key item) class + of_class key (get shelf.items key) class ≡ count_of s.items class + of_class key (Some item) class
  counts_put (Some old) item class = ap (λ (o : Option Entry). count_of (insert s.items key item) class + of_class key o class) (sym at.item) ∙ count-insert class s.items key item
  counts_put None item class =
      let put = count-insert class (remove s.items key) key item in
      let none : of_class key (get (remove s.items key) key) class ≡ 0 = ap (λ (o : Option Entry). of_class key o class) (get_gone s.items key) in
      let gone = count-remove class s.items key in
      let same : of_class key (get s.items key) class ≡ of_class key (get shelf.items key) class = ap (λ (o : Option Entry). of_class key o class) at.item in
      omega arith

  -- no item was there, and none is
  pub at_none : get shelf.items key ≡ None → StandsAt key shelf desk (record s { items = remove s.items key })
  at_none none = record {
    greatest = at.greatest;
    cut = at.cut;
    item = get_gone s.items key ∙ sym none;
    next_unique = at.next_unique;
    limit = at.limit;
    pages = at.pages;
    out = λ class is.
        let gone = count-remove class s.items key in
        let zero : of_class key (get s.items key) class ≡ 0 = ap (λ (o : Option Entry). of_class key o class) (at.item ∙ none) in
        let out = at.out class is in
        omega arith;
  }

  -- the key's item is dropped
  pub at_dropped : (new : ShelfContent) (hash : ℕ) (old : Entry) → IsDropped key hash shelf new → get shelf.items key ≡ Some old → IsSlab desk.slab → IsClass (item_need key old).class →
      StandsAt key new (record desk { slab = given desk.slab (item_need key old).class (item_need key old).count }) (record s { items = remove s.items key })
  at_dropped new hash old dropped found is is_class = record {
    greatest = at.greatest ∙ sym dropped.others.greatest;
    cut = at.cut ∙ sym dropped.others.cut;
    item = get_gone s.items key ∙ sym dropped.item;
    next_unique = at.next_unique;
    limit = at.limit;
    pages = at.pages;
    out = λ class is_other.
        let need = item_need key old in
        let gone = count-remove class s.items key in
        let one : of_class key (get s.items key) class ≡ weight need.class need.count class = ap (λ (o : Option Entry). of_class key o class) (at.item ∙ found) in
        let less : out_of (given desk.slab need.class need.count) class ≡ out_of desk.slab class - weight need.class need.count class =
        out-given desk.slab need.class is_class is.out need.count class is_other in
        let out = at.out class is_other in
        omega arith;
  }

  -- the chunks of the key's item are out
  pub out_found : (class : ℕ) → IsClass class → of_class key (get shelf.items key) class ≤ out_of desk.slab class
  out_found class is_class =
      let gone = count-remove class s.items key in
      let same : of_class key (get s.items key) class ≡ of_class key (get shelf.items key) class = ap (λ (o : Option Entry). of_class key o class) at.item in
      let out = at.out class is_class in
      omega arith

  pub out_some : (old : Entry) → get shelf.items key ≡ Some old → IsClass (item_need key old).class → (item_need key old).count ≤ out_of desk.slab (item_need key old).class
  out_some old found is_class =
      let need = item_need key old in
      let least = out_found need.class is_class in
      let one : of_class key (get shelf.items key) need.class ≡ weight need.class need.count need.class = ap (λ (o : Option Entry). of_class key o need.class) found in
      let here : weight need.class need.count need.class ≡ need.count = weight_here need.class need.count in
      omega (arith, least, one, here)

  -- the key's item is put there again, of the same need
  pub at_put_again : (after : ShelfContent) (hash : ℕ) (old new : Entry) → IsPut key hash shelf after new → get shelf.items key ≡ Some old → item_need key new ≡ item_need key old → (n : ℕ) →
      StandsAt key after (record desk { next_unique = n }) (record s { items = insert s.items key new; next_unique = n })
  at_put_again after hash old new puts found same n = record {
    greatest = at.greatest ∙ sym puts.others.greatest;
    cut = at.cut ∙ sym puts.others.cut;
    item = get_put s.items key new ∙ sym puts.item;
    next_unique = refl;
    limit = at.limit;
    pages = at.pages;
    out = λ class is.
        let put = counts_put (Some old) new class in
        let before : of_class key (get shelf.items key) class ≡ chunks_in (item_need key old) class = ap (λ (o : Option Entry). of_class key o class) found in
        let after : of_class key (Some new) class ≡ chunks_in (item_need key old) class = ap (λ (need : NeedState). chunks_in need class) same in
        let out = at.out class is in
        omega arith;
  }

-- ---- a write

module _ (reply : Reply) (key : List ℕ) (flags : ℕ) (expiry : Expiry) (block : List ℕ) (t : Plain) (now : ℕ) where
  pub wrote_too_large : (stays : Bool) → t.greatest < charge key block → wrote stays reply key flags expiry block t now ≡ Answered TooLarge t
  wrote_too_large stays large = rw (lt-ltb t.greatest (charge key block) large) refl

  pub wrote_spent : (stays : Bool) → charge key block ≤ t.greatest → t.next_unique ≡ 2 ^ 64 - 1 → wrote stays reply key flags expiry block t now ≡ Spent
  wrote_spent stays fits spent = rw (le-ltb t.greatest (charge key block) fits, eq-eqb t.next_unique (2 ^ 64 - 1) spent) refl

  pub wrote_kept : charge key block ≤ t.greatest → t.next_unique ≢ 2 ^ 64 - 1 → wrote true reply key flags expiry block t now ≡ Answered reply (written t key flags expiry block now)
  wrote_kept fits more = rw (le-ltb t.greatest (charge key block) fits, ne_eqb t.next_unique (2 ^ 64 - 1) more) refl

  pub wrote_taken : charge key block ≤ t.greatest → t.next_unique ≢ 2 ^ 64 - 1 → has_room t (block_need key block) ≡ true
      → wrote false reply key flags expiry block t now ≡ Answered reply (written (with_chunk t (block_need key block)) key flags expiry block now)
  wrote_taken fits more room = rw (le-ltb t.greatest (charge key block) fits, ne_eqb t.next_unique (2 ^ 64 - 1) more, room) refl

  pub wrote_full : charge key block ≤ t.greatest → t.next_unique ≢ 2 ^ 64 - 1 → has_room t (block_need key block) ≡ false → wrote false reply key flags expiry block t now ≡ Answered NoChunk t
  wrote_full fits more none = rw (le-ltb t.greatest (charge key block) fits, ne_eqb t.next_unique (2 ^ 64 - 1) more, none) refl

-- what is at hand and whether there is room, by the account of the slab once so many chunks came back
pub unused_is : (t : Plain) (slab : SlabState) (class back : ℕ) → IsSlab slab → IsClass class → t.pages ≡ slab.pages
    → count_of t.items class + back ≡ out_of slab class → machine.unused t class ≡ slabs.unused slab class + back
unused_is t slab class back is is_class pages count =
    let chunks : machine.chunks_of t class ≡ slabs.chunks_of slab class = ap (λ (ps : List ℕ). get_or ps (class - 1) 0 * chunks_a_page class) pages in
    let within = is.within class is_class in
    omega (arith, chunks, within, count)

pub room_is : (t : Plain) (slab : SlabState) (need : NeedState) (back : ℕ) → IsSlab slab → IsClass need.class → t.pages ≡ slab.pages → t.limit ≡ slab.limit
    → count_of t.items need.class + back ≡ out_of slab need.class
    → has_room t need ≡ slabs.has_room_with slab need back
room_is t slab need back is is_class pages limit count =
    let unused = unused_is t slab need.class back is is_class pages count in
    λ i. leb need.count (unused i + (limit i - sum (pages i)) * chunks_a_page need.class)

-- the pages that a write leaves
pub pages_are : (t : Plain) (slab : SlabState) (need : NeedState) (back : ℕ) → IsSlab slab → IsClass need.class → t.pages ≡ slab.pages → count_of t.items need.class + back ≡ out_of slab need.class
    → (with_chunk t need).pages ≡ pages_after need.class need.count (slabs.unused slab need.class + back) slab.pages
pages_are t slab need back is is_class pages count =
    let unused = unused_is t slab need.class back is is_class pages count in
    λ i. pages_after need.class need.count (unused i) (pages i)
