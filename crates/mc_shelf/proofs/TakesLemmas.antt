-- What a shelf and a desk make of a plan is what the plain machine makes of the step.
use Rattle.mc_shelf.proofs.Common.{[], ◌&&◌, ◌*◌, ◌+◌, ◌-◌, ◌<◌, ◌==◌, ◌^◌, ◌||◌, ◌∙◌, ◌≡◌, ◌≢◌, ◌≤◌, Action, alive, and_parts, and_right, Answer, Answered, ap, arith, back_at, block_beside}
use Rattle.mc_shelf.proofs.Common.{block_in, block_need, block_of, Body, Bool, CanStandAt, changed, charge, chunks_a_page, chunks_in, ChunksState, count-remove, count_of, Counted, counts, dead_chunks}
use Rattle.mc_shelf.proofs.Common.{DeskState, Discard, empty, Entry, eqb, eqb-true, Expire, Expiry, false, get, Given, given, gives_way, GivesBack, GoesOver, has_need}
use Rattle.mc_shelf.proofs.Common.{has_room, if◌then◌else◌, insert, is_gone, is_none, is_some, IsClass, IsDropped, IsHash, IsNeed, IsOnKey, IsOut, IsPut, IsSlab, IsSpent}
use Rattle.mc_shelf.proofs.Common.{item_need, item_of, keeps_chunk, key_of, KeyStep, le-leb, Left, leb-true, List, lt-ltb, made_block, made_ready, need_for, NeedState, next_of, NoChunk, None, not}
use Rattle.mc_shelf.proofs.Common.{of_class, Option, or_right, out_of, Plain, plain, Prepended, refl, remove, Reply, row_at, same_need, same_Some, ShelfContent, ShelfState, SlabState, Some}
use Rattle.mc_shelf.proofs.Common.{StandsAt, StepTaken, stood, subst, sym, taken, true, true≢false, with_chunk, Write, write_reply, written, written_block, written_next, wrote, ℕ}
use Rattle.std.proofs.Common.{decimal}
use Rattle.mc_shelf.specs.declared.plan.Plan.{Plan}
use Rattle.mc_shelf.specs.Plans.{GivesChunks, GoesApart, IsPlan, LiesInNeed, TakesStepAtKey, told_next}
use Rattle.mc_shelf.proofs.StandLemmas.{base, step_is, at_none, at_dropped, at_put_again, counts_put, given_taken, out-given, out-taken, out-way, out_found, out_some, pages-way, pages_after}
use Rattle.mc_shelf.proofs.StandLemmas.{pages_are, pages_stay, ready_unused, room_by_free, room_is, taken_is_slab, weight, weight_here, wrote_full, wrote_kept, wrote_spent, wrote_taken}
use Rattle.mc_shelf.proofs.NeedLemmas.{need_class, needs_same}
use Rattle.mc_shelf.proofs.ShelfLemmas.{others_same}
use Rattle.mc_shelf.proofs.KeyLemmas.{get_put}
use Rattle.mc_shelf.proofs.PlanLemmas.{Does, IsSized, alive_found, block_at, dead_found, found_in, made_beside, next_does, row_does, row_speaks, wrote_at}
use Rattle.mc_slab.specs.Slabs as slabs
use Rattle.mc_protocol.specs.Plain as machine
use Rattle.mc_shelf.specs.Plans as plans

-- what a plan says without a plain state
module _ (shelf : ShelfContent) (step : KeyStep) (now : ℕ) where
  none_yet : Plain
  none_yet = record { greatest = shelf.greatest; limit = 0; items = empty; cut = None; next_unique = 0; pages = [] }

  does_yet : (next : Action) → next ≡ next_of shelf step now → Does shelf step now none_yet (changed (row_at shelf step now) step (stood shelf step now) (found_in shelf step now none_yet) now) next
  unfolding none_yet
  does_yet next is = subst (λ (n : Action). Does shelf step now none_yet (changed (row_at shelf step now) step (stood shelf step now) (found_in shelf step now none_yet) now) n) (sym is)
      (row_does shelf step now none_yet refl (row_at shelf step now) (row_speaks step now (stood shelf step now)))

  pub sized : (size flags : ℕ) (expiry : Expiry) (body : Body) → Write size flags expiry body ≡ next_of shelf step now → IsSized shelf step now size body
  sized size flags expiry body is = (does_yet (Write size flags expiry body) is).1

  pub expired_is : (expiry : Expiry) (reply : Reply) → Expire expiry reply ≡ next_of shelf step now → (item : Entry) × (get shelf.items (key_of step) ≡ Some item)
  expired_is expiry reply is = let d = does_yet (Expire expiry reply) is in (d.0, alive_found shelf.cut now (get shelf.items (key_of step)) d.0 d.1)

  pub discarded_is : (reply : Reply) → Discard reply ≡ next_of shelf step now → (item : Entry) × (get shelf.items (key_of step) ≡ Some item)
  discarded_is reply is = let d = does_yet (Discard reply) is in (d.0, d.1)

  -- no step is begun before it is looked up
  pub begun_never : (unique : ℕ) (chunks : Option ChunksState) (flags : ℕ) (expiry : Expiry) (body : Body) → Left unique chunks flags expiry body ≡ next_of shelf step now → ⊥
  begun_never unique chunks flags expiry body is = does_yet (Left unique chunks flags expiry body) is

-- a desk whose class has the pages that a need wants, once so many chunks came back
abbrev pub readied : NeedState → (back : ℕ) → DeskState → DeskState
readied need back desk = record desk { slab = made_ready desk.slab need back }

-- a desk after so many chunks of a need's class came back, the need's were taken, and a number was drawn
abbrev pub way_given : NeedState → (back : ℕ) → DeskState → DeskState
way_given need back desk = record { slab = taken (given desk.slab need.class back) need; next_unique = desk.next_unique + 1 }

-- the chunks of the key's item are out
pub is_out : (key : List ℕ) (shelf : ShelfContent) (desk : DeskState) → CanStandAt key shelf desk → IsOut key shelf desk
is_out key shelf desk can item found is_class = out_some key shelf desk can.plain can.stands item found is_class

pub is_out_taken : (key : List ℕ) (shelf : ShelfContent) (desk : DeskState) (need : NeedState) → CanStandAt key shelf desk
    → IsSlab desk.slab → IsClass need.class → (n : ℕ) → IsOut key shelf (record { slab = taken desk.slab need; next_unique = n })
is_out_taken key shelf desk need can is is_class n item found is_item =
    let before = is_out key shelf desk can item found is_item in
    let after = out-taken desk.slab need is_class is.out (item_need key item).class is_item in
    omega (arith, before, after)

-- ---- a step that writes nothing

-- an expiry that is set under a key is set under each name of it
pub puts_at : (own : ℕ) (old new : ShelfContent) (expiry : Expiry) {key other : List ℕ} → key ≡ other
    → ((item : Entry) → get old.items key ≡ Some item → IsPut key own old new (record item { expiry = expiry }))
    → (item : Entry) → get old.items other ≡ Some item → IsPut other own old new (record item { expiry = expiry })
puts_at own old new expiry = subst (λ (k : List ℕ). (item : Entry) → get old.items k ≡ Some item → IsPut k own old new (record item { expiry = expiry }))

module _ (step : KeyStep) (now : ℕ) (shelf : ShelfContent) (desk : DeskState) (on : IsOnKey step) where
  abbrev key : List ℕ
  key = key_of step

  abbrev found : Option Entry
  found = get shelf.items key

  does_at : (next : Action) → next ≡ next_of shelf step now → (s : Plain) → StandsAt key shelf desk s → Does shelf step now s (plain s step now) next
  does_at next is s at = next_does shelf step now desk s on at (plain s step now) (step_is step now shelf desk s on at) next is

  -- where no dead item is found, the step finds the state as it is
  at_under : (s : Plain) → StandsAt key shelf desk s → is_gone shelf.cut now found ≡ false → StandsAt key shelf desk (found_in shelf step now s)
  at_under s at alive = by found (stood shelf step now) refl refl alive
    where
      by : (f st : Option Entry) → found ≡ f → stood shelf step now ≡ st → is_some f && is_none st ≡ false → StandsAt key shelf desk (record s { items = base st key s.items })
      by f (Some item) is stood none = at
      by None None is stood none = at_none key shelf desk s at is
      by (Some dead) None is stood none = absurd (true≢false none)

  pub takes_answer : (reply : Reply) → Answer reply ≡ next_of shelf step now → TakesStepAtKey step now shelf desk reply shelf desk
  takes_answer reply is s at = let d = does_at (Answer reply) is s at in (found_in shelf step now s, d.0, at_under s at d.1)

  pub takes_expire : (expiry : Expiry) (reply : Reply) (own : ℕ) (new : ShelfContent)
      → ((item : Entry) → found ≡ Some item → IsPut key own shelf new (record item { expiry = expiry })) → Expire expiry reply ≡ next_of shelf step now
      → TakesStepAtKey step now shelf desk reply new desk
  takes_expire expiry reply own new puts is s at =
      let d = does_at (Expire expiry reply) is s at in
      let item = d.0 in
      let there = alive_found shelf.cut now found item d.1 in
      let after : Plain = record s { items = insert s.items key (record item { expiry = expiry }); next_unique = desk.next_unique } in (
        after,
        d.2 ∙ ap (λ (n : ℕ). Answered reply (record s { items = insert s.items key (record item { expiry = expiry }); next_unique = n })) at.next_unique,
        at_put_again key shelf desk s at new own item (record item { expiry = expiry }) (puts item there) there refl desk.next_unique,
      )

  dropped_at : (s : Plain) → StandsAt key shelf desk s → (old : Entry) (own : ℕ) (new : ShelfContent) (desk' : DeskState) → found ≡ Some old
      → IsDropped key own shelf new → GivesBack key found desk desk' → StandsAt key new desk' (record s { items = remove s.items key })
  dropped_at s at old own new desk' there dropped back =
      let one : GivesChunks (item_need key old) desk desk' = subst (λ (o : Option Entry). GivesBack key o desk desk') there back in
      subst (λ (d : DeskState). StandsAt key new d (record s { items = remove s.items key })) (sym one.given_is)
      (at_dropped key shelf desk s at new own old dropped there one.is_slab one.is_need.is_class)

  pub takes_discard : (reply : Reply) (own : ℕ) (new : ShelfContent) (desk' : DeskState) → ((item : Entry) → found ≡ Some item → IsDropped key own shelf new)
      → GivesBack key found desk desk' → Discard reply ≡ next_of shelf step now → TakesStepAtKey step now shelf desk reply new desk'
  takes_discard reply own new desk' dropped back is s at =
      let d = does_at (Discard reply) is s at in
      (record s { items = remove s.items key }, d.2, dropped_at s at d.0 own new desk' d.1 (dropped d.0 d.1) back)

-- ---- which chunks a write goes to

-- a write goes into the chunks of the item that is found: they are those that it needs, and the item is counted or dead
abbrev pub reuses : (cut : Option ℕ) → (now : ℕ) → (key : List ℕ) → Option Entry → NeedState → Body → Bool
reuses cut now key found need body = has_need key found need && (counts body || is_gone cut now found)

not_reused : (has : Bool) (body : Body) (gone : Bool) (need : NeedState) (slab : SlabState) → has && plans.goes_over body gone need slab ≡ false → has && (counts body || gone) ≡ false
not_reused false body gone need slab e = refl
not_reused true (Counted number) gone need slab e = e
not_reused true Prepended gone need slab e = e
not_reused true body true need slab e = e
not_reused true body false need slab e = refl

-- a write that goes into others reuses none
pub reuses_none : {plan : Plan} {body : Body} {step : KeyStep} {shelf : ShelfContent} {need : NeedState} {slab : SlabState} {back : ℕ} → GoesApart plan body step shelf need slab back
    → reuses shelf.cut plan.moment (key_of step) (get shelf.items (key_of step)) need body ≡ false
reuses_none {plan} {body} {step} {shelf} {need} {slab} apart =
    let found = get shelf.items (key_of step) in
    not_reused (has_need (key_of step) found need) body (is_gone shelf.cut plan.moment found) need slab apart.other

-- where a write goes over an item without reusing its chunks, as many others are unused
unused_over : (body : Body) (gone : Bool) (need : NeedState) (slab : SlabState) → plans.goes_over body gone need slab ≡ true → counts body || gone ≡ false
    → need.count ≤ slabs.unused slab need.class
unused_over (Counted number) gone need slab e none = absurd (true≢false none)
unused_over Prepended gone need slab e none = absurd (true≢false (sym e ∙ none))
unused_over body true need slab e none = absurd (true≢false none)
unused_over body false need slab e none = leb-true need.count (slabs.unused slab need.class) e

same_needs : (a b : NeedState) → same_need a b ≡ true → a ≡ b
same_needs a b e =
    let both = and_parts (a.class == b.class) (a.count == b.count) e in
    λ i. record { class = eqb-true a.class b.class both.0 i; count = eqb-true a.count b.count both.1 i }

pub need_of_found : (k : List ℕ) (f : Option Entry) (need : NeedState) → has_need k f need ≡ true → (old : Entry) × (f ≡ Some old) × (item_need k old ≡ need)
need_of_found k None need e = absurd (true≢false (sym e))
need_of_found k (Some old) need e = (old, refl, same_needs (item_need k old) need e)

and_left : (a b : Bool) → a && b ≡ false → b ≡ true → a ≡ false
and_left true b e t = absurd (true≢false (sym t ∙ e))
and_left false b e t = refl

and_false : (a b c : Bool) → a && (b || c) ≡ false → a ≡ true → c ≡ false
and_false true true c e t = absurd (true≢false e)
and_false true false c e t = e
and_false false b c e t = absurd (true≢false (sym t))

or_left : (a b : Bool) → b ≡ false → a || b ≡ true → a ≡ true
or_left true b e t = refl
or_left false b e t = absurd (true≢false (sym t ∙ e))

-- what comes back of the item that is found
pub dead_none : (cut : Option ℕ) (now : ℕ) (k : List ℕ) (f : Option Entry) (class : ℕ) → alive cut now f ≡ None → dead_chunks cut now k f class ≡ of_class k f class
dead_none cut now k None class e = refl
dead_none cut now k (Some old) class e = ap (λ (o : Option Entry). if is_none o then of_class k (Some old) class else 0) e

pub dead_alive : (cut : Option ℕ) (now : ℕ) (k : List ℕ) (f : Option Entry) (class : ℕ) → is_gone cut now f ≡ false → dead_chunks cut now k f class ≡ 0
dead_alive cut now k f class e = ap (λ (b : Bool). if b then of_class k f class else 0) e

-- where chunks come back, the item is dead, and has so many of the class
pub way_item : (cut : Option ℕ) (now : ℕ) (k : List ℕ) (f : Option Entry) (class : ℕ) → 0 < dead_chunks cut now k f class → (old : Entry) × (f ≡ Some old)
    × (is_gone cut now f ≡ true) × ((item_need k old).class ≡ class) × ((item_need k old).count ≡ dead_chunks cut now k f class)
way_item cut now k None class some = absurd (omega (arith, some))
way_item cut now k (Some old) class some =
    let gone = weighs (is_gone cut now (Some old)) (of_class k (Some old) class) some in
    let same = weighs (eqb (item_need k old).class class) (item_need k old).count (subst (λ (n : ℕ). 0 < n) gone.1 some) in
    (old, refl, gone.0, eqb-true (item_need k old).class class same.0, sym same.1 ∙ sym gone.1)
  where
    weighs : (b : Bool) (n : ℕ) → 0 < (if b then n else 0) → (b ≡ true) × ((if b then n else 0) ≡ n)
    weighs true n some = (refl, refl)
    weighs false n some = absurd (omega (arith, some))

-- the item that stands is not dead
pub stands_not_gone : (cut : Option ℕ) (now : ℕ) (f : Option Entry) (old : Entry) → alive cut now f ≡ Some old → is_gone cut now f ≡ false
stands_not_gone cut now f old e = and_right (is_some f) (is_none (alive cut now f)) (ap is_none e)

-- what the slab has out of a class, by what a step finds
module _ (step : KeyStep) (now : ℕ) (shelf : ShelfContent) (desk : DeskState) (is : IsSlab desk.slab) (s : Plain) (at : StandsAt (key_of step) shelf desk s) where
  pub count_base : (class : ℕ) → IsClass class
      → count_of (found_in shelf step now s).items class + dead_chunks shelf.cut now (key_of step) (get shelf.items (key_of step)) class ≡ out_of desk.slab class
  count_base class is_class = by (stood shelf step now) refl
    where
      key : List ℕ
      key = key_of step

      by : (st : Option Entry) → stood shelf step now ≡ st → count_of (base st key s.items) class + dead_chunks shelf.cut now key (get shelf.items key) class ≡ out_of desk.slab class
      by (Some item) stood =
          let none = dead_alive shelf.cut now key (get shelf.items key) class (stands_not_gone shelf.cut now (get shelf.items key) item stood) in
          let out = at.out class is_class in
          omega (arith, none, out)
      by None none =
          let dead = dead_none shelf.cut now key (get shelf.items key) class none in
          let gone = count-remove class s.items key in
          let same : of_class key (get s.items key) class ≡ of_class key (get shelf.items key) class = ap (λ (o : Option Entry). of_class key o class) at.item in
          let out = at.out class is_class in
          omega (arith, dead, gone, same, out)

  pub room_found : (need : NeedState) → IsClass need.class → has_room (found_in shelf step now s) need ≡ slabs.has_room_with desk.slab need (back_at shelf (key_of step) now need)
  room_found need is_class = room_is (found_in shelf step now s) desk.slab need (back_at shelf (key_of step) now need) is is_class at.pages at.limit (count_base need.class is_class)

  pub pages_found : (need : NeedState) → IsClass need.class
      → (with_chunk (found_in shelf step now s) need).pages ≡ pages_after need.class need.count (slabs.unused desk.slab need.class + back_at shelf (key_of step) now need) desk.slab.pages
  pages_found need is_class = pages_are (found_in shelf step now s) desk.slab need (back_at shelf (key_of step) now need) is is_class at.pages (count_base need.class is_class)

module _ (step : KeyStep) (now : ℕ) (shelf : ShelfContent) (desk : DeskState) (on : IsOnKey step) (size flags : ℕ) (expiry : Expiry) (body : Body) (next : Write size flags expiry body ≡ next_of shelf step now) where
  pub wrote_is : (s : Plain) → StandsAt (key_of step) shelf desk s → plain s step now ≡ wrote_at shelf step now flags expiry body s
  wrote_is s at = (does_at step now shelf desk on (Write size flags expiry body) next s at).0

  pub fits_plain : (s : Plain) → StandsAt (key_of step) shelf desk s → charge (key_of step) (block_at shelf step now body) ≤ s.greatest
  fits_plain s at =
      let is = sized shelf step now size flags expiry body next in
      rw at.greatest (subst (λ (n : ℕ). n ≤ shelf.greatest) is.size_is is.fits)

  -- the numbers are spent
  pub is_spent : desk.next_unique ≡ 2 ^ 64 - 1 → IsSpent step now shelf desk
  is_spent spent s at =
      wrote_is s at
      ∙ wrote_spent (write_reply body) (key_of step) flags expiry (block_at shelf step now body) (found_in shelf step now s) now
      (keeps_chunk body (key_of step) (stood shelf step now)) (fits_plain s at) (at.next_unique ∙ spent)

-- a write that comes next, and the chunks that it needs
pub record Writes (step : KeyStep) (now : ℕ) (shelf : ShelfContent) (desk : DeskState) (size flags : ℕ) (expiry : Expiry) (body : Body) (need : NeedState) : Type 0 where
  pub on : IsOnKey step
  pub next : Write size flags expiry body ≡ next_of shelf step now
  pub need_is : need ≡ need_for size

pub writes_so : {plan : Plan} {shelf : ShelfContent} {step : KeyStep} {size flags : ℕ} {expiry : Expiry} {body : Body} {need : NeedState} (desk : DeskState) → IsPlan plan shelf step plan.moment
    → plan.next ≡ Write size flags expiry body → need ≡ need_for size → Writes step plan.moment shelf desk size flags expiry body need
writes_so desk is next need_is = record { on = is.on_key; next = sym next ∙ is.next; need_is = need_is }

module _ {step : KeyStep} {now : ℕ} {shelf : ShelfContent} {desk : DeskState} {size flags : ℕ} {expiry : Expiry} {body : Body} {need : NeedState} (w : Writes step now shelf desk size flags expiry body need) where
  abbrev its_key : List ℕ
  its_key = key_of step

  abbrev its_found : Option Entry
  its_found = get shelf.items its_key

  abbrev its_stands : Option Entry
  its_stands = stood shelf step now

  abbrev block : List ℕ
  block = block_at shelf step now body

  abbrev Reuses : Bool → Type 0
  Reuses b = reuses shelf.cut now its_key its_found need body ≡ b

  abbrev back : ℕ
  back = back_at shelf its_key now need

  sized_is : IsSized shelf step now size body
  sized_is = sized shelf step now size flags expiry body w.next

  -- the block that is written, beside the item that was its_found
  beside_is : block_beside shelf step body ≡ block
  beside_is = made_beside shelf.cut now its_found body (block_of step) sized_is.given

  pub charge_beside : charge its_key (block_beside shelf step body) ≡ size
  charge_beside = ap (charge its_key) beside_is ∙ sym sized_is.size_is

  need_charge : need ≡ block_need its_key block
  need_charge = w.need_is ∙ ap need_for sized_is.size_is

  pub room_by : {told : ℕ} {has b : Bool} → told ≡ back → has ≡ slabs.has_room_with desk.slab need told → has ≡ b → slabs.has_room_with desk.slab need back ≡ b
  room_by same is e = sym (is ∙ ap (slabs.has_room_with desk.slab need) same) ∙ e

  -- a write that goes into no chunks of the key's keeps none
  keeps_none : Reuses false → keeps_chunk body its_key its_stands ≡ false
  keeps_none e = by body its_stands refl refl
    where
      by : (b : Body) (st : Option Entry) → body ≡ b → its_stands ≡ st → keeps_chunk b its_key st ≡ false
      by (Counted number) None is stood = refl
      by (Counted number) (Some old) is stood =
          let other = and_left (has_need its_key its_found need) (counts body || is_gone shelf.cut now its_found) e (ap (λ (b : Body). counts b || is_gone shelf.cut now its_found) is) in
          let there = alive_found shelf.cut now its_found old stood in
          let same : need ≡ block_need its_key (decimal number) = need_charge ∙ ap (λ (b : Body). block_need its_key (written_block b (block_of step) its_stands)) is in
          ap (same_need (item_need its_key old)) (sym same) ∙ ap (λ (o : Option Entry). has_need its_key o need) (sym there) ∙ other
      by b st is stood = refl

  -- one that goes into the chunks of the key's item: they are those that it needs, and it is dead or counted
  pub reused_is : Reuses true → (old : Entry) × (its_found ≡ Some old) × (item_need its_key old ≡ need) × (counts body || is_gone shelf.cut now its_found ≡ true)
  reused_is e =
      let both = and_parts (has_need its_key its_found need) (counts body || is_gone shelf.cut now its_found) e in
      let there = need_of_found its_key its_found need both.0 in
      (there.0, there.1, there.2, both.1)

  -- its block is a number, where the item stands
  counted_is : Reuses true → (item : Entry) → its_stands ≡ Some item → counts body ≡ true
  counted_is e item stood = or_left (counts body) (is_gone shelf.cut now its_found) (stands_not_gone shelf.cut now its_found item stood) (reused_is e).3

  -- a body that goes over the item may: beside a dead one the block is the step's own
  pub may_go : (slab : SlabState) → plans.goes_over body (is_gone shelf.cut now its_found) need slab ≡ true → GoesOver body
  may_go slab over = by body refl over
    where
      by : (b : Body) → body ≡ b → plans.goes_over b (is_gone shelf.cut now its_found) need slab ≡ true → GoesOver b
      by Prepended is gone = subst GoesOver (sym (sized_is.given (dead_found shelf step now its_found its_stands gone).1) ∙ is) tt
      by b is over = tt

  -- where the key's item has the chunks of the need, they are those of the block that is made beside it
  pub item_over : (state : ShelfState) → state.content ≡ shelf → has_need its_key its_found need ≡ true → LiesInNeed its_key (block_beside shelf step body) state
  item_over state same has =
      let there = need_of_found its_key its_found need has in
      record {
        item = there.0;
        there = ap (λ (s : ShelfContent). get s.items its_key) same ∙ there.1;
        need = there.2 ∙ need_charge ∙ ap (block_need its_key) (sym beside_is);
      }

  -- the item that gives way, and the block that takes its place
  pub way_is : Reuses false → 0 < back → (old : Entry) × (its_found ≡ Some old) × ((item_need its_key old).class ≡ need.class)
      × ((item_need its_key old).count ≡ back) × (body ≡ Given) × (gives_way shelf.cut now its_key its_found (need_for size) ≡ true)
  way_is e some =
      let way = way_item shelf.cut now its_key its_found need.class some in
      let none = (dead_found shelf step now its_found its_stands way.2).1 in
      let other : has_need its_key its_found need ≡ false =
      and_left (has_need its_key its_found need) (counts body || is_gone shelf.cut now its_found) e (or_right (counts body) (is_gone shelf.cut now its_found) way.2) in
      (way.0, way.1, way.3, way.4, sized_is.given none, subst (λ (n : NeedState). gives_way shelf.cut now its_key its_found n ≡ true) w.need_is (λ i. not (other i) && lt-ltb 0 back some i))

  -- and its chunks are out
  pub way_out : Reuses false → 0 < back → CanStandAt its_key shelf desk → back ≤ out_of desk.slab need.class
  way_out e some can =
      let way = way_is e some in
      let its_class : IsClass (item_need its_key way.0).class = subst IsClass (sym (way.2 ∙ ap (λ (n : NeedState). n.class) w.need_is)) (need_class size) in
      subst (λ (t : ℕ × ℕ). t.0 ≤ out_of desk.slab t.1) (λ i. (way.3 i, way.2 i)) (is_out its_key shelf desk can way.0 way.1 its_class)

  -- it was dropped, and its chunks went back to the desk, which was made ready: what is there then, and what the write makes
  -- beside it
  pub gave_way : Reuses false → IsSlab desk.slab → CanStandAt its_key shelf desk → {told own : ℕ} {mid : ShelfContent} {ready gave : DeskState} → told ≡ back → 0 < told
      → ready ≡ readied need told desk → ((item : Entry) → its_found ≡ Some item → IsDropped its_key own shelf mid) → GivesBack its_key its_found ready gave
      → IsDropped its_key own shelf mid × (gave ≡ record desk { slab = given (made_ready desk.slab need back) need.class back }) × (need.count ≤ slabs.unused gave.slab need.class)
      × (block_beside mid step body ≡ block_beside shelf step body)
  gave_way e is can {told} {own} {mid} {ready} {gave} told_is some ready_is dropped gives =
      let more = subst (λ (n : ℕ). 0 < n) told_is some in
      let way = way_is e more in
      let readied_is : ready ≡ readied need back desk = ready_is ∙ ap (λ (n : ℕ). readied need n desk) told_is in
      let one : GivesChunks (item_need its_key way.0) ready gave = subst (λ (o : Option Entry). GivesBack its_key o ready gave) way.1 gives in
      let gave_is : gave ≡ record desk { slab = given (made_ready desk.slab need back) need.class back } =
      one.given_is ∙ (λ i. record (readied_is i) { slab = given (readied_is i).slab (way.2 i) (way.3 i) }) in (
        dropped way.0 way.1,
        gave_is,
        subst (λ (d : DeskState). need.count ≤ slabs.unused d.slab need.class) (sym gave_is)
            (ready_unused desk.slab need (subst (λ (n : NeedState). IsClass n.class) (sym w.need_is) (need_class size)) is back (way_out e more can)),
        ap (λ (b : Body). made_block b (block_of step) (block_in (get mid.items its_key))) way.4 ∙ ap (λ (b : Body). made_block b (block_of step) (block_in its_found)) (sym way.4),
      )

  module _ (is_need : IsNeed need) (is : IsSlab desk.slab) (more : desk.next_unique < 2 ^ 64 - 1) where
    its_wrote : (s : Plain) → StandsAt its_key shelf desk s → plain s step now ≡ wrote_at shelf step now flags expiry body s
    its_wrote = wrote_is step now shelf desk w.on size flags expiry body w.next

    its_fits : (s : Plain) → StandsAt its_key shelf desk s → charge its_key block ≤ s.greatest
    its_fits = fits_plain step now shelf desk w.on size flags expiry body w.next

    not_last : (s : Plain) → StandsAt its_key shelf desk s → s.next_unique ≢ 2 ^ 64 - 1
    not_last s at e = let same = at.next_unique in absurd (omega (arith, same))

    -- the chunks can't be had: a dead item is dropped, and one that isn't dead stays
    pub takes_full : {own : ℕ} {new : ShelfContent} {desk' : DeskState} → Reuses false → slabs.has_room_with desk.slab need back ≡ false → IsHash shelf its_key own
        → (is_gone shelf.cut now its_found ≡ true → IsDropped its_key own shelf new × GivesBack its_key its_found desk desk')
        → (is_gone shelf.cut now its_found ≡ false → (new ≡ shelf) × (desk' ≡ desk)) → StepTaken step now own shelf desk NoChunk new desk'
    takes_full {own} {new} {desk'} e room has dead alive = by (is_gone shelf.cut now its_found) refl
      where
        full : (s : Plain) → StandsAt its_key shelf desk s → plain s step now ≡ Answered NoChunk (found_in shelf step now s)
        full s at =
            its_wrote s at ∙ ap (λ (b : Bool). machine.wrote b (write_reply body) its_key flags expiry block (found_in shelf step now s) now) (keeps_none e)
            ∙ wrote_full (write_reply body) its_key flags expiry block (found_in shelf step now s) now (its_fits s at) (not_last s at)
            (subst (λ (n : NeedState). has_room (found_in shelf step now s) n ≡ false) need_charge (room_found step now shelf desk is s at need is_need.is_class ∙ room))

        by : (b : Bool) → is_gone shelf.cut now its_found ≡ b → StepTaken step now own shelf desk NoChunk new desk'
        by true gone =
            let there = dead_found shelf step now its_found its_stands gone in
            let both = dead gone in
            record {
              takes = λ s at. (
                found_in shelf step now s,
                full s at,
                subst (λ (o : Option Entry). StandsAt its_key new desk' (record s { items = base o its_key s.items })) (sym there.1)
                    (dropped_at step now shelf desk w.on s at there.0.0 own new desk' there.0.1 both.0 both.1),
              );
              others = both.0.others;
              hash = both.0.hash;
            }
        by false gone =
            let both = alive gone in
            subst (λ (d : DeskState). StepTaken step now own shelf desk NoChunk new d) (sym both.1)
            (subst (λ (t : ShelfContent). StepTaken step now own shelf desk NoChunk t desk) (sym both.0)
            (record { takes = λ s at. (found_in shelf step now s, full s at, at_under step now shelf desk w.on s at gone); others = others_same its_key shelf; hash = has }))

    -- the item was put
    module _ {own unique : ℕ} {new : ShelfContent} (drawn : unique ≡ desk.next_unique) (puts : IsPut its_key own shelf new (item_of flags expiry (block_beside shelf step body) unique now)) where
      abbrev put_item : Entry
      put_item = item_of flags expiry block desk.next_unique now

      its_put : IsPut its_key own shelf new put_item
      its_put = subst (λ (e : Entry). IsPut its_key own shelf new e) (λ i. item_of flags expiry (beside_is i) (drawn i) now) puts

      abbrev IsAfter : DeskState → Type 0
      IsAfter desk' = TakesStepAtKey step now shelf desk (write_reply body) new desk'

      its_taken : {reply : Reply} {desk' after : DeskState} → reply ≡ write_reply body → desk' ≡ after → IsAfter after → StepTaken step now own shelf desk reply new desk'
      its_taken {reply} {desk'} told same takes = record {
        takes = subst (λ (r : Reply). TakesStepAtKey step now shelf desk r new desk') (sym told) (subst (λ (d : DeskState). IsAfter d) (sym same) takes);
        others = puts.others;
        hash = puts.hash;
      }

      -- it goes into other chunks: what the slab's account is then
      takes_other : (slab : SlabState) → keeps_chunk body its_key its_stands ≡ false → slabs.has_room_with desk.slab need back ≡ true → slab.limit ≡ desk.slab.limit
          → slab.pages ≡ pages_after need.class need.count (slabs.unused desk.slab need.class + back) desk.slab.pages
          → ((other : ℕ) → IsClass other → out_of slab other + of_class its_key its_found other ≡ out_of desk.slab other + chunks_in need other)
          → IsAfter (record { slab = slab; next_unique = desk.next_unique + 1 })
      takes_other slab keeps room limit pages moved s at =
          let under = found_in shelf step now s in
          let item : Entry = item_of flags expiry block s.next_unique now in
          let has : has_room under (block_need its_key block) ≡ true =
          subst (λ (n : NeedState). has_room under n ≡ true) need_charge (room_found step now shelf desk is s at need is_need.is_class ∙ room) in (
            written (with_chunk under (block_need its_key block)) its_key flags expiry block now,
            its_wrote s at ∙ ap (λ (b : Bool). machine.wrote b (write_reply body) its_key flags expiry block under now) keeps
                ∙ wrote_taken (write_reply body) its_key flags expiry block under now (its_fits s at) (not_last s at) has,
            record {
              greatest = at.greatest ∙ sym puts.others.greatest;
              cut = at.cut ∙ sym puts.others.cut;
              item = get_put (base its_stands its_key s.items) its_key item ∙ ap (λ (n : ℕ). Some (item_of flags expiry block n now)) at.next_unique ∙ sym its_put.item;
              next_unique = ap (λ (n : ℕ). n + 1) at.next_unique;
              limit = at.limit ∙ sym limit;
              pages = subst (λ (n : NeedState). (with_chunk under n).pages ≡ slab.pages) need_charge (pages_found step now shelf desk is s at need is_need.is_class ∙ sym pages);
              out = λ other is_other.
                  let put = counts_put its_key shelf desk s at its_stands item other in
                  let same = ap (λ (n : NeedState). chunks_in n other) need_charge in
                  let out = at.out other is_other in
                  omega (arith, put, same, out, moved other is_other);
            },
          )

      -- it goes into the chunks of the key's item
      takes_again : {reply : Reply} {desk' : DeskState} → Reuses true → reply ≡ write_reply body → desk' ≡ record desk { next_unique = desk.next_unique + 1 }
          → StepTaken step now own shelf desk reply new desk'
      takes_again e told same = its_taken told same (λ s at. by s at its_stands refl)
        where
          old : Entry
          old = (reused_is e).0

          there : its_found ≡ Some old
          there = (reused_is e).1

          by : (s : Plain) → StandsAt its_key shelf desk s → (st : Option Entry) → its_stands ≡ st → (after : Plain) × (plain s step now ≡ Answered (write_reply body) after)
              × StandsAt its_key new (record desk { next_unique = desk.next_unique + 1 }) after
          by s at None none =
              let keeps : keeps_chunk body its_key its_stands ≡ false = ap (λ (b : Body). keeps_chunk b its_key its_stands) (sized_is.given none) in
              let of : (other : ℕ) → of_class its_key its_found other ≡ chunks_in need other = λ other. ap (λ (o : Option Entry). of_class its_key o other) there
              ∙ ap (λ (n : NeedState). chunks_in n other) (reused_is e).2 in
              let comes : back ≡ need.count = dead_none shelf.cut now its_key its_found need.class none ∙ of need.class ∙ weight_here need.class need.count in
              let enough : need.count ≤ slabs.unused desk.slab need.class + back = omega (arith, comes) in
              let room : slabs.has_room_with desk.slab need back ≡ true =
              le-leb need.count (slabs.unused desk.slab need.class + back + slabs.pages_left desk.slab * chunks_a_page need.class) (omega (arith, enough)) in
              takes_other desk.slab keeps room refl (sym (pages_stay need.class need.count (slabs.unused desk.slab need.class + back) desk.slab.pages enough))
              (λ other is_other. ap (λ (n : ℕ). out_of desk.slab other + n) (of other)) s at
          by s at (Some item) stood =
              let same : item ≡ old = same_Some item old (sym (alive_found shelf.cut now its_found item stood) ∙ there) in
              let keeps : keeps_chunk body its_key its_stands ≡ true = ap (keeps_chunk body its_key) stood ∙ keeps_counted body item (counted_is e item stood) refl
              ∙ needs_same (item_need its_key item) (block_need its_key block) (ap (item_need its_key) same ∙ (reused_is e).2 ∙ need_charge) in
              let under = found_in shelf step now s in
              let after : Plain = record s { items = insert s.items its_key put_item; next_unique = desk.next_unique + 1 } in
              let eq : written under its_key flags expiry block now ≡ after =
              λ i. record s { items = insert (base (stood i) its_key s.items) its_key (item_of flags expiry block (at.next_unique i) now); next_unique = at.next_unique i + 1 } in (
                after,
                its_wrote s at ∙ ap (λ (b : Bool). machine.wrote b (write_reply body) its_key flags expiry block under now) keeps
                    ∙ wrote_kept (write_reply body) its_key flags expiry block under now (its_fits s at) (not_last s at)
                    ∙ ap (λ (t : Plain). Answered (write_reply body) t) eq,
                at_put_again its_key shelf desk s at new own old put_item its_put there (sym need_charge ∙ sym (reused_is e).2) (desk.next_unique + 1),
              )
            where
              keeps_counted : (b : Body) (item : Entry) → counts b ≡ true → b ≡ body
                  → keeps_chunk b its_key (Some item) ≡ same_need (item_need its_key item) (block_need its_key block)
              keeps_counted (Counted number) item c is = ap (λ (b : Body). same_need (item_need its_key item) (block_need its_key (written_block b (block_of step) its_stands))) is
              keeps_counted b item c is = absurd (true≢false (sym c))

      -- it goes into others, while the old one, if there is one, has its own, which go back then
      pub takes_anew : {reply : Reply} {mid desk' : DeskState} → Reuses false → back ≡ 0 → slabs.has_room_with desk.slab need back ≡ true → reply ≡ write_reply body
          → mid ≡ record { slab = taken desk.slab need; next_unique = desk.next_unique + 1 } → GivesBack its_key its_found mid desk' → StepTaken step now own shelf desk reply new desk'
      takes_anew {reply} {mid} {desk'} e none room told mid_is gives =
          let after = outs_after its_found (desk.next_unique + 1) desk' (subst (λ (d : DeskState). GivesBack its_key its_found d desk') mid_is gives) in
          its_taken told (λ i. record { slab = desk'.slab; next_unique = after.0 i })
          (λ s at. takes_other desk'.slab (keeps_none e) room after.1
          (after.2 ∙ ap (λ (n : ℕ). pages_after need.class need.count (slabs.unused desk.slab need.class + n) desk.slab.pages) (sym none))
          (λ other is_other.
          let took : out_of (taken desk.slab need) other ≡ out_of desk.slab other + chunks_in need other = out-taken desk.slab need is_need.is_class is.out other is_other in
          let less : out_of desk'.slab other ≡ out_of (taken desk.slab need) other - of_class its_key its_found other = after.3 other is_other in
          let least = out_found its_key shelf desk s at other is_other in
          omega (arith, took, less, least)) s at)
        where
          -- what is out after the chunks were taken, and the old item's given back
          outs_after : (f : Option Entry) (n : ℕ) (desk' : DeskState) → GivesBack its_key f (record { slab = taken desk.slab need; next_unique = n }) desk'
              → (desk'.next_unique ≡ n) × (desk'.slab.limit ≡ desk.slab.limit) × (desk'.slab.pages ≡ (taken desk.slab need).pages)
              × ((other : ℕ) → IsClass other → out_of desk'.slab other ≡ out_of (taken desk.slab need) other - of_class its_key f other)
          outs_after None n desk' back = (
            ap (λ (d : DeskState). d.next_unique) back,
            ap (λ (d : DeskState). d.slab.limit) back,
            ap (λ (d : DeskState). d.slab.pages) back,
            λ other is_other. let same = ap (λ (d : DeskState). out_of d.slab other) back in omega (arith, same),
          )
          outs_after (Some item) n desk' back = (
            ap (λ (d : DeskState). d.next_unique) back.given_is,
            ap (λ (d : DeskState). d.slab.limit) back.given_is,
            ap (λ (d : DeskState). d.slab.pages) back.given_is,
            λ other is_other. ap (λ (d : DeskState). out_of d.slab other) back.given_is
                ∙ out-given (taken desk.slab need) (item_need its_key item).class back.is_need.is_class back.is_slab.out (item_need its_key item).count other is_other,
          )

      -- a dead item gives way to it
      pub takes_way : {reply : Reply} {desk' : DeskState} → Reuses false → 0 < back → slabs.has_room_with desk.slab need back ≡ true → reply ≡ write_reply body
          → desk' ≡ way_given need back (readied need back desk) → StepTaken step now own shelf desk reply new desk'
      takes_way e some room told same =
          let way = way_is e some in
          let is_class = is_need.is_class in
          let of : (other : ℕ) → of_class its_key its_found other ≡ weight need.class back other =
          λ other. ap (λ (o : Option Entry). of_class its_key o other) way.1 ∙ (λ i. weight (way.2 i) (way.3 i) other) in
          its_taken told same (λ s at.
          let least : back ≤ out_of desk.slab need.class = let out = out_found its_key shelf desk s at need.class is_class in
          let here = weight_here need.class back in omega (arith, out, of need.class, here) in
          takes_other (way_given need back (readied need back desk)).slab (keeps_none e) room refl (pages-way desk.slab need is_class is back least)
          (λ other is_other.
          let out = out-way desk.slab need is_class is back other is_other in
          let had = out_found its_key shelf desk s at other is_other in
          omega (arith, out, had, of other)) s at)

      -- it goes into the chunks of the key's item, which isn't dead, where as many others are unused
      takes_in_place : {reply : Reply} {desk' : DeskState} → Reuses false → has_need its_key its_found need ≡ true → need.count ≤ slabs.unused desk.slab need.class
          → reply ≡ write_reply body → desk' ≡ record desk { next_unique = desk.next_unique + 1 } → StepTaken step now own shelf desk reply new desk'
      takes_in_place {reply} {desk'} e has free told same =
          let there = need_of_found its_key its_found need has in
          let none = dead_alive shelf.cut now its_key its_found need.class (and_false (has_need its_key its_found need) (counts body) (is_gone shelf.cut now its_found) e has) in
          let mid : DeskState = record { slab = taken desk.slab need; next_unique = desk.next_unique + 1 } in
          let gives : GivesChunks need mid desk' = record {
            given_is = same ∙ (λ i. record { slab = sym (given_taken desk.slab need is_need.is_class is.out free) i; next_unique = desk.next_unique + 1 });
            is_need = is_need;
            is_slab = taken_is_slab desk.slab need is_need.is_class is free;
          } in
          takes_anew e none (ap (slabs.has_room_with desk.slab need) none ∙ room_by_free desk.slab need free) told refl
          (subst (λ (o : Option Entry). GivesBack its_key o mid desk') (sym there.1) (subst (λ (k : NeedState). GivesChunks k mid desk') (sym there.2) gives))

      -- it goes into the chunks of the key's item
      pub takes_over : {reply : Reply} {desk' : DeskState} → has_need its_key its_found need ≡ true → plans.goes_over body (is_gone shelf.cut now its_found) need desk.slab ≡ true
          → reply ≡ write_reply body → desk' ≡ record desk { next_unique = desk.next_unique + 1 } → StepTaken step now own shelf desk reply new desk'
      takes_over {reply} {desk'} has over told same =
          elim (reuses shelf.cut now its_key its_found need body) as (λ b. Reuses b → StepTaken step now own shelf desk reply new desk') [
            | true ↦ λ e. takes_again e told same
            | false ↦ λ e.
                let none = subst (λ (b : Bool). b && (counts body || is_gone shelf.cut now its_found) ≡ false) has e in
                takes_in_place e has (unused_over body (is_gone shelf.cut now its_found) need desk.slab over none) told same
          ] refl

-- a step that was taken, by what comes next of it
pub taken_as : (plan : Plan) {left one : Action} → left ≡ one → (step : KeyStep) (old : ShelfContent) (desk : DeskState) (new : ShelfContent) (desk' : DeskState)
    → StepTaken step plan.moment plan.hash old desk (told_next one) (written_next plan one step new) desk' → StepTaken step plan.moment plan.hash old desk (told_next left) (written_next plan left step new) desk'
taken_as plan is step old desk new desk' = subst (λ (n : Action). StepTaken step plan.moment plan.hash old desk (told_next n) (written_next plan n step new) desk') (sym is)

-- what is put after the key's item was dropped
pub put_after_drop : (key : List ℕ) (own : ℕ) (old mid new : ShelfContent) (one : Entry) → IsDropped key own old mid → IsPut key own mid new one → IsPut key own old new one
put_after_drop key own old mid new one dropped puts = record {
  item = puts.item;
  others = record {
    greatest = puts.others.greatest ∙ dropped.others.greatest;
    cut = puts.others.cut ∙ dropped.others.cut;
    items = λ other apart. puts.others.items other apart ∙ dropped.others.items other apart;
    hashes = λ other apart. puts.others.hashes other apart ∙ dropped.others.hashes other apart;
  };
  hash = puts.hash;
}
