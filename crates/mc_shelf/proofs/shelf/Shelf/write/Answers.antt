use Rattle.mc_shelf.proofs.Common.{◌&&◌, ◌+◌, ◌-◌, ◌<◌, ◌^◌, ◌∙◌, ◌≡◌, ◌≤◌, Action, ap, AreChunksOf, arith, back_at, block_beside, Body, Bool, CanStandAt, CanWrite, charge, ChunksState, DeskState}
use Rattle.mc_shelf.proofs.Common.{Entry, Expiry, get, given, GivesBack, has_room_with, inl, inr, IsClass, IsHash, IsKnown, IsNeed, IsOut, IsPut, IsSlab, item_of, key_of, KeyStep, left_of, Left, length, List}
use Rattle.mc_shelf.proofs.Common.{made_ready, need_for, NeedState, None, none-some, Option, out_of, refl, Reply, ShelfContent, ShelfState, size_in, SlabState, Some, StepTaken, subst, sym, taken}
use Rattle.mc_shelf.proofs.Common.{true, true≢false, with_item, Write, write_reply, written_next, ℕ}
use Rattle.mc_shelf.specs.declared.plan.Plan.{Plan}
use Rattle.mc_protocol.specs.Commands.{longest_key}
use Rattle.mc_shelf.specs.Plans.{CanWriteBlock, CanWriteLeft, CanWriteNext, GoesInto, IsSought, StaysUntil, Suits, drawn, gives_way_to, told_next}
use Rattle.mc_shelf.proofs.ShelfLemmas.{known_sought, put_new, put_over}
use Rattle.mc_shelf.proofs.TakesLemmas.{Writes, charge_beside, gave_way, is_out, is_out_taken, item_over, may_go, put_after_drop, reuses_none, room_by, sized, takes_anew, takes_full}
use Rattle.mc_shelf.proofs.TakesLemmas.{taken_as, takes_over, takes_way, way_is, way_out, writes_so}
use Rattle.mc_shelf.proofs.shelf.Shelf.write.Goals as goal

pub need_for-need-requires : goal.need_for-need-requires
need_for-need-requires c =
    (sized c.args.self.now.content c.args.step.now c.args.plan.now.moment c.in-Write.charge c.in-Write.flags c.in-Write.expiry c.in-Write.body (sym c.in-Write.is ∙ c.requires.plan.next)).fits

-- what is left of the plan's write
left_is : {next left : Action} {size flags unique : ℕ} {expiry : Expiry} {body : Body} {chunks : Option ChunksState} → next ≡ Write size flags expiry body → left ≡ left_of next unique chunks
    → left ≡ Left unique chunks flags expiry body
left_is {unique = unique} {chunks = chunks} next_is is = is ∙ ap (λ (n : Action). left_of n unique chunks) next_is

-- ---- into the chunks of the key's item

-- what comes of a write that goes, or is left to go, into the chunks of the key's item
over : {plan : Plan} {size flags : ℕ} {expiry : Expiry} {body : Body} {step : KeyStep} {shelf new : ShelfContent} {desk desk' : DeskState} {need : NeedState} {unique : ℕ}
    → IsHash shelf (key_of step) plan.hash → Writes step plan.moment shelf desk size flags expiry body need → IsNeed need → IsSlab desk.slab → desk.next_unique < 2 ^ 64 - 1 → unique ≡ desk.next_unique
    → new ≡ with_item None (key_of step) plan.hash (item_of flags expiry (block_beside shelf step body) unique plan.moment) shelf
    → GoesInto plan body step shelf need desk.slab → desk' ≡ drawn desk → StepTaken step plan.moment plan.hash shelf desk (write_reply body) new desk'
over {plan} {flags = flags} {expiry} {body} {step} {shelf} {unique = unique} has w is_need is_slab number drawn new_is into taken =
    let item = item_of flags expiry (block_beside shelf step body) unique plan.moment in
    takes_over w is_need is_slab number drawn
    (subst (λ (s : ShelfContent). IsPut (key_of step) plan.hash shelf s item) (sym new_is) (put_over (key_of step) plan.hash shelf item has))
    into.has into.over refl taken

-- and it can be done
can_write : {plan : Plan} {size flags : ℕ} {expiry : Expiry} {body : Body} {step : KeyStep} {shelf : ShelfState} {desk : DeskState} {need : NeedState} {slab : SlabState} → length (key_of step) ≤ longest_key
    → IsKnown shelf.content (key_of step) plan.hash plan.place → Writes step plan.moment shelf.content desk size flags expiry body need → GoesInto plan body step shelf.content need slab
    → CanWriteBlock plan body None step shelf
can_write {plan} {step = step} {shelf} {slab = slab} short known w into = record {
  short = short;
  sought = known_sought _ (key_of step) plan.hash plan.place known;
  ready = (may_go w slab into.over, item_over w shelf refl into.has);
}

pub write_left-none-requires : goal.write_left-none-requires
write_left-none-requires c =
    subst (λ (n : Action). CanWriteLeft c.args.plan.now n c.args.step.now c.args.self.now) (sym (left_is c.in-Write.is c.left-left.ensures))
    (can_write c.requires.key c.requires.plan.known (writes_so c.args.desk.now c.requires.plan c.in-Write.is c.need_for-need.ensures.value) (c.fit.ensures.over c.in_default-fit.is))

pub returns-then-counts-clause-took : goal.returns-then-counts-clause-took
returns-then-counts-clause-took c =
    subst (λ (r : Reply). StepTaken c.args.step.now c.args.plan.now.moment c.args.plan.now.hash c.args.self.now.content c.args.desk.now r c.write_left-none.new.self.content c.draw.new.self)
    (sym c.reply.ensures)
    (over c.requires.plan.known.hash (writes_so c.args.desk.now c.requires.plan c.in-Write.is c.need_for-need.ensures.value) c.need_for-need.ensures.is_need c.is_spent.ensures.slab
    (c.is_spent.ensures.left c.if-is_spent.false) c.draw.ensures.number
    (c.write_left-none.ensures.content ∙ ap (λ (n : Action). written_next c.args.plan.now n c.args.step.now c.args.self.now.content) (left_is c.in-Write.is c.left-left.ensures))
    (c.fit.ensures.over c.in_default-fit.is) c.draw.ensures.drawn)

pub returns-in_default-fit-clause-left : goal.returns-in_default-fit-clause-left
returns-in_default-fit-clause-left c =
    subst (λ (n : Action). CanWriteNext c.args.plan.now n c.args.step.now c.args.self.now) (sym (left_is c.in-Write.is c.left-left.ensures)) (record {
      can = can_write c.requires.key c.requires.plan.known (writes_so c.args.desk.now c.requires.plan c.in-Write.is c.need_for-need.ensures.value) (c.fit.ensures.over c.in_default-fit.is);
      own = λ _. sym c.counts.ensures ∙ c.if-counts.false;
    })

pub returns-in_default-fit-clause-took : goal.returns-in_default-fit-clause-took
returns-in_default-fit-clause-took c =
    taken_as c.args.plan.now (left_is c.in-Write.is c.left-left.ensures) c.args.step.now c.args.self.now.content c.args.desk.now c.args.self.now.content c.draw.new.self
    (over c.requires.plan.known.hash (writes_so c.args.desk.now c.requires.plan c.in-Write.is c.need_for-need.ensures.value) c.need_for-need.ensures.is_need c.is_spent.ensures.slab
    (c.is_spent.ensures.left c.if-is_spent.false) c.draw.ensures.number refl (c.fit.ensures.over c.in_default-fit.is) c.draw.ensures.drawn)

-- ---- into others

-- chunks that were taken for it suit the block that it makes beside what a shelf holds
suits : {step : KeyStep} {now size : ℕ} {shelf : ShelfContent} {desk : DeskState} {flags : ℕ} {expiry : Expiry} {body : Body} {need : NeedState} {chunks : ChunksState} → Writes step now shelf desk size flags expiry body need
    → (mid : ShelfContent) → size ≤ size_in need → AreChunksOf need chunks → block_beside mid step body ≡ block_beside shelf step body → Suits chunks (key_of step) (block_beside mid step body)
suits {step} {size = size} {chunks = chunks} w mid fits are same =
    let charged = ap (charge (key_of step)) same ∙ charge_beside w in
    record {
      need = are.need_is ∙ w.need_is ∙ ap need_for (sym charged);
      fits = subst (λ (n : ℕ). n ≤ length chunks.bytes) (sym charged) (subst (λ (n : ℕ). size ≤ n) (sym (are.are.size ∙ ap size_in are.need_is)) fits);
    }

pub drop_dead-requires-clause-out : goal.drop_dead-requires-clause-out
drop_dead-requires-clause-out c = is_out (key_of c.args.step.now) c.args.self.now.content c.args.desk.now c.requires.stands

pub returns-then-not-has_room-clause-took : goal.returns-then-not-has_room-clause-took
returns-then-not-has_room-clause-took c =
    let apart = c.in-Some.ensures.apart in
    let w = writes_so c.args.desk.now c.requires.plan c.in-Write.is c.need_for-need.ensures.value in
    takes_full w c.need_for-need.ensures.is_need c.is_spent.ensures.slab (c.is_spent.ensures.left c.if-is_spent.false) (reuses_none apart)
    (room_by w apart.back_is c.has_room.ensures.value c.if-not-has_room.true) c.requires.plan.known.hash c.drop_dead.ensures.dead c.drop_dead.ensures.alive

-- it can be taken
can_take : (plan : Plan) {size flags : ℕ} {expiry : Expiry} {body : Body} {step : KeyStep} {shelf : ShelfContent} {desk : DeskState} {need : NeedState} {told : ℕ} {has : Bool}
    → Writes step plan.moment shelf desk size flags expiry body need → plan.next ≡ Write size flags expiry body → desk.next_unique < 2 ^ 64 - 1 → told ≡ back_at shelf (key_of step) plan.moment need
    → has ≡ has_room_with desk.slab need told → has ≡ true → CanWrite plan.next shelf (key_of step) plan.moment desk
can_take plan {size} {flags} {expiry} {body} {step} {shelf} {desk} w is number back has e = record {
  size = size;
  flags = flags;
  expiry = expiry;
  body = body;
  writes_it = is;
  number = λ spent. omega (arith, number, spent);
  chunks = subst (λ (n : NeedState). has_room_with desk.slab n (back_at shelf (key_of step) plan.moment n) ≡ true) w.need_is (room_by w back has e);
}

-- the chunks of the key's item are out once its own were taken
taken_out : (key : List ℕ) (shelf : ShelfContent) (desk : DeskState) (need : NeedState) {took : DeskState} → CanStandAt key shelf desk → IsSlab desk.slab → IsClass need.class
    → took ≡ record desk { slab = taken desk.slab need } → IsOut key shelf took
taken_out key shelf desk need can is is_class same = subst (λ (d : DeskState). IsOut key shelf d) (sym same) (is_out_taken key shelf desk need can is is_class desk.next_unique)

pub exchange_drawn-requires-clause-out : goal.exchange_drawn-requires-clause-out
exchange_drawn-requires-clause-out c =
    taken_out (key_of c.args.step.now) c.args.self.now.content c.args.desk.now c.need_for-need.result c.requires.stands c.take.ensures.slab c.need_for-need.ensures.is_need.is_class c.in_ok-chunks.ensures.taken

-- it can be put into chunks that suit it, and what comes of that
can_put : (plan : Plan) (step : KeyStep) (shelf : ShelfState) (unique : ℕ) {next left : Action} {size flags : ℕ} {expiry : Expiry} {body : Body} {chunks : ChunksState}
    → next ≡ Write size flags expiry body → left ≡ left_of next unique (Some chunks) → length (key_of step) ≤ longest_key → IsSought shelf.content (key_of step) plan.hash plan.place
    → (get shelf.content.items (key_of step) ≡ None → 1 ≤ shelf.room) → Suits chunks (key_of step) (block_beside shelf.content step body) → CanWriteNext plan left step shelf
can_put plan step shelf unique next_is is short sought room suits =
    subst (λ (n : Action). CanWriteNext plan n step shelf) (sym (left_is next_is is))
    (record { can = record { short = short; sought = sought; ready = record { room = room; suits = suits } }; own = λ e. absurd (none-some _ (sym e)) })

was_put : (plan : Plan) (step : KeyStep) (chunks : ChunksState) {next left : Action} {size flags unique : ℕ} {expiry : Expiry} {body : Body} {shelf new : ShelfContent}
    → next ≡ Write size flags expiry body → left ≡ left_of next unique (Some chunks) → new ≡ written_next plan left step shelf
    → IsPut (key_of step) plan.hash shelf new (item_of flags expiry (block_beside shelf step body) unique plan.moment)
was_put plan step chunks {flags = flags} {unique} {expiry} {body} {shelf} next_is is new_is =
    let item = item_of flags expiry (block_beside shelf step body) unique plan.moment in
    subst (λ (s : ShelfContent). IsPut (key_of step) plan.hash shelf s item) (sym (new_is ∙ ap (λ (n : Action). written_next plan n step shelf) (left_is next_is is)))
    (put_new (key_of step) plan.hash shelf chunks item)

pub put-requires-in-None-clause-can : goal.put-requires-in-None-clause-can
put-requires-in-None-clause-can c =
    let w = writes_so c.args.desk.now c.requires.plan c.in-Write.is c.need_for-need.ensures.value in
    let can = can_take c.args.plan.now w c.in-Write.is (c.is_spent.ensures.left c.if-is_spent.false) c.in-Some.ensures.apart.back_is c.has_room.ensures.value c.if-not-has_room.false in
    can_put c.args.plan.now c.args.step.now c.args.self.now c.draw-in-None.result c.in-Write.is c.left-left-in-None.ensures c.requires.key (known_sought _ (key_of c.args.step.now) c.args.plan.now.hash c.args.plan.now.place c.requires.plan.known)
    (λ none. c.requires.room can c.requires.writes (inl none)) (suits w c.args.self.now.content c.need_for-need.ensures.holds c.in_ok-chunks.ensures.chunks refl)

pub put-requires-in-None-clause-out : goal.put-requires-in-None-clause-out
put-requires-in-None-clause-out c =
    let key = key_of c.args.step.now in
    subst (λ (d : DeskState). IsOut key c.args.self.now.content d) (sym (c.draw-in-None.ensures.drawn ∙ ap drawn (c.exchange_drawn.ensures.kept c.in-None.is ∙ c.in_ok-chunks.ensures.taken)))
    (is_out_taken key c.args.self.now.content c.args.desk.now c.need_for-need.result c.requires.stands c.take.ensures.slab c.need_for-need.ensures.is_need.is_class (c.args.desk.now.next_unique + 1))

pub returns-in-None-clause-took : goal.returns-in-None-clause-took
returns-in-None-clause-took c =
    let w = writes_so c.args.desk.now c.requires.plan c.in-Write.is c.need_for-need.ensures.value in
    let apart = c.in-Some.ensures.apart in
    let none : c.in-Some.back ≡ 0 = let least = c.if-back-gt0.false in omega (arith, least) in
    let took = c.exchange_drawn.ensures.kept c.in-None.is ∙ c.in_ok-chunks.ensures.taken in
    let left = c.left-left-in-None.ensures in
    takes_anew w c.need_for-need.ensures.is_need c.take.ensures.slab (c.is_spent.ensures.left c.if-is_spent.false)
    (c.draw-in-None.ensures.number ∙ ap (λ (d : DeskState). d.next_unique) took) (was_put c.args.plan.now c.args.step.now c.in_ok-chunks.chunks c.in-Write.is left c.put-in-None.ensures.content)
    (reuses_none apart) (sym apart.back_is ∙ none) (room_by w apart.back_is c.has_room.ensures.value c.if-not-has_room.false)
    (c.put-in-None.ensures.told ∙ ap told_next (left_is c.in-Write.is left)) (c.draw-in-None.ensures.drawn ∙ ap drawn took) c.put-in-None.ensures.given

-- ---- into others, which the desk has in exchange

pub returns-in-Some-exchange_drawn-clause-took : goal.returns-in-Some-exchange_drawn-clause-took
returns-in-Some-exchange_drawn-clause-took c =
    let shelf = c.args.self.now.content in
    let plan = c.args.plan.now in
    let w = writes_so c.args.desk.now c.requires.plan c.in-Write.is c.need_for-need.ensures.value in
    let apart = c.in-Some.ensures.apart in
    let none : c.in-Some.back ≡ 0 = let least = c.if-back-gt0.false in omega (arith, least) in
    let took = c.in_ok-chunks.ensures.taken in
    let given = c.in-Some-exchange_drawn.ensures.given in
    taken_as plan (left_is c.in-Write.is c.left.ensures) c.args.step.now shelf c.args.desk.now shelf c.exchange_drawn.new.desk
    (takes_anew w c.need_for-need.ensures.is_need c.take.ensures.slab (c.is_spent.ensures.left c.if-is_spent.false)
    (given.0 ∙ ap (λ (d : DeskState). d.next_unique) took)
    (put_new (key_of c.args.step.now) plan.hash shelf c.in_ok-chunks.chunks
    (item_of c.in-Write.flags c.in-Write.expiry (block_beside shelf c.args.step.now c.in-Write.body) c.in-Some-exchange_drawn.unique plan.moment))
    (reuses_none apart) (sym apart.back_is ∙ none) (room_by w apart.back_is c.has_room.ensures.value c.if-not-has_room.false) refl (ap drawn took) given.1)

pub returns-in-Some-exchange_drawn-clause-left : goal.returns-in-Some-exchange_drawn-clause-left
returns-in-Some-exchange_drawn-clause-left c =
    let w = writes_so c.args.desk.now c.requires.plan c.in-Write.is c.need_for-need.ensures.value in
    let can = can_take c.args.plan.now w c.in-Write.is (c.is_spent.ensures.left c.if-is_spent.false) c.in-Some.ensures.apart.back_is c.has_room.ensures.value c.if-not-has_room.false in
    can_put c.args.plan.now c.args.step.now c.args.self.now c.in-Some-exchange_drawn.unique c.in-Write.is c.left.ensures c.requires.key (known_sought _ (key_of c.args.step.now) c.args.plan.now.hash c.args.plan.now.place c.requires.plan.known)
    (λ none. c.requires.room can c.requires.writes (inl none)) (suits w c.args.self.now.content c.need_for-need.ensures.holds c.in_ok-chunks.ensures.chunks refl)

-- ---- a dead item gives its chunks back first

pub ready-requires-clause-back : goal.ready-requires-clause-back
ready-requires-clause-back c =
    let w = writes_so c.args.desk.now c.requires.plan c.in-Write.is c.need_for-need.ensures.value in
    let apart = c.in-Some.ensures.apart in
    subst (λ (n : ℕ). n ≤ out_of c.args.desk.now.slab c.need_for-need.result.class) (sym apart.back_is)
    (way_out w (reuses_none apart) (subst (λ (n : ℕ). 0 < n) apart.back_is c.if-back-gt0.true) c.requires.stands)

pub discard-requires-clause-out : goal.discard-requires-clause-out
discard-requires-clause-out c =
    let key = key_of c.args.step.now in
    subst (λ (d : DeskState). IsOut key c.args.self.now.content d) (sym c.in_ok-ready.ensures.ready) (is_out key c.args.self.now.content c.args.desk.now c.requires.stands)

pub take_unused-chunks-requires : goal.take_unused-chunks-requires
take_unused-chunks-requires c =
    let apart = c.in-Some.ensures.apart in
    (gave_way (writes_so c.args.desk.now c.requires.plan c.in-Write.is c.need_for-need.ensures.value) (reuses_none apart) c.is_spent.ensures.slab c.requires.stands apart.back_is c.if-back-gt0.true
    c.in_ok-ready.ensures.ready c.discard.ensures.dropped c.discard.ensures.given).2

pub put-requires-clause-can : goal.put-requires-clause-can
put-requires-clause-can c =
    let shelf = c.args.self.now.content in
    let desk = c.args.desk.now in
    let plan = c.args.plan.now in
    let need_is = c.need_for-need.ensures.value in
    let w = writes_so desk c.requires.plan c.in-Write.is need_is in
    let apart = c.in-Some.ensures.apart in
    let number = c.is_spent.ensures.left c.if-is_spent.false in
    let way = gave_way w (reuses_none apart) c.is_spent.ensures.slab c.requires.stands apart.back_is c.if-back-gt0.true
    c.in_ok-ready.ensures.ready c.discard.ensures.dropped c.discard.ensures.given in
    let room = c.requires.room (can_take c.args.plan.now w c.in-Write.is number apart.back_is c.has_room.ensures.value c.if-not-has_room.false) c.requires.writes
    (inr (ap (λ (n : Action). gives_way_to n shelf (key_of c.args.step.now) plan.moment) c.in-Write.is ∙ (way_is w (reuses_none apart) (subst (λ (n : ℕ). 0 < n) apart.back_is c.if-back-gt0.true)).5)) in
    can_put plan c.args.step.now c.discard.new.self c.draw-then-back-gt0.result c.in-Write.is c.left-left-then-back-gt0.ensures c.requires.key (record { hash = way.0.hash; none = λ _. way.0.item }) (λ _. omega (arith, c.discard.ensures.room, room))
    (suits w c.discard.new.self.content c.need_for-need.ensures.holds c.take_unused-chunks.ensures.chunks way.3)

pub put-requires-clause-out : goal.put-requires-clause-out
put-requires-clause-out c =
    let way = gave_way (writes_so c.args.desk.now c.requires.plan c.in-Write.is c.need_for-need.ensures.value) (reuses_none c.in-Some.ensures.apart) c.is_spent.ensures.slab c.requires.stands
    c.in-Some.ensures.apart.back_is c.if-back-gt0.true c.in_ok-ready.ensures.ready c.discard.ensures.dropped c.discard.ensures.given in
    λ item found is_class. absurd (none-some item (sym way.0.item ∙ found))

pub returns-then-back-gt0-clause-stays : goal.returns-then-back-gt0-clause-stays
returns-then-back-gt0-clause-stays c =
    let plan = c.args.plan.now in
    let step = c.args.step.now in
    let old = c.args.self.now.content in
    let slab = c.args.desk.now.slab in
    subst (λ (n : Action). StaysUntil plan n step old slab c.put.new.self.content) (sym c.in-Write.is) (λ free into.
    let there = subst (λ (n : NeedState). GoesInto plan c.in-Write.body step old n slab) (sym c.need_for-need.ensures.value) into in
    absurd (true≢false (sym (λ i. there.has i && there.over i) ∙ c.in-Some.ensures.apart.other)))

pub returns-then-back-gt0-clause-took : goal.returns-then-back-gt0-clause-took
returns-then-back-gt0-clause-took c =
    let desk = c.args.desk.now in
    let plan = c.args.plan.now in
    let step = c.args.step.now in
    let need = c.need_for-need.result in
    let mid = c.discard.new.self.content in
    let w = writes_so desk c.requires.plan c.in-Write.is c.need_for-need.ensures.value in
    let apart = c.in-Some.ensures.apart in
    let way = gave_way w (reuses_none apart) c.is_spent.ensures.slab c.requires.stands apart.back_is c.if-back-gt0.true
    c.in_ok-ready.ensures.ready c.discard.ensures.dropped c.discard.ensures.given in
    let took = c.take_unused-chunks.new.self in
    let back = back_at c.args.self.now.content (key_of step) plan.moment need in
    let took_is : took ≡ record desk { slab = taken (given (made_ready desk.slab need back) need.class back) need } =
    c.take_unused-chunks.ensures.taken ∙ ap (λ (d : DeskState). record d { slab = taken d.slab need }) way.1 in
    let new = written_next plan c.put.result step c.put.new.self.content in
    let left = c.left-left-then-back-gt0.ensures in
    let write = c.in-Write in
    let drew = c.draw-then-back-gt0.ensures.drawn ∙ ap drawn took_is in
    takes_way w c.need_for-need.ensures.is_need c.is_spent.ensures.slab (c.is_spent.ensures.left c.if-is_spent.false) (c.draw-then-back-gt0.ensures.number ∙ ap (λ (d : DeskState). d.next_unique) took_is)
    (put_after_drop (key_of step) plan.hash c.args.self.now.content mid new _ way.0
    (subst (λ (l : List ℕ). IsPut (key_of step) plan.hash mid new (item_of write.flags write.expiry l c.draw-then-back-gt0.result plan.moment)) way.3 (was_put plan step c.take_unused-chunks.result write.is left c.put.ensures.content)))
    (reuses_none apart) (subst (λ (n : ℕ). 0 < n) apart.back_is c.if-back-gt0.true) (room_by w apart.back_is c.has_room.ensures.value c.if-not-has_room.false) (c.put.ensures.told ∙ ap told_next (left_is write.is left))
    (subst (λ (o : Option Entry). GivesBack (key_of step) o c.draw-then-back-gt0.new.self c.put.new.desk) way.0.item c.put.ensures.given ∙ drew)
