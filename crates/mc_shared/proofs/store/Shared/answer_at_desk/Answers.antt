use Rattle.mc_shared.proofs.Words.{arith, ◌≡◌, ◌+◌, ◌-◌, ◌%◌, ◌++◌, ℕ, [], ◌∷◌, Option, Some, None, is_some, is_none, true, false, replicate, refl, sym, ap, ◌∙◌, subst, get, len, key_of, Plain}
use Rattle.mc_shared.proofs.Words.{ShelfState, ShelfContent, DeskState, IsShelfOf, IsDeskOf, number_of, OfShelf, OfDesk, Operation, start_of, Stepped, call, word_of, MayDecide, SharedState}
use Rattle.mc_shared.proofs.Words.{Refuses, holds_two, loaded, decided_by, entry_of, HoldsBoth, HoldsShelf, IsAsked, caller_at, StepTaken, finished, told_next, goes_by_step}
use Rattle.mc_shared.proofs.Decisions.{applies_step, goes_step}
use Rattle.mc_shared.proofs.NumberSteps.{counts_step, enough}
use Rattle.mc_shared.proofs.Held.{at_both, both_stand, may_raise, all_named, left_held, came_out, refused_both}
use Rattle.mc_shared.proofs.store.Shared.answer_at_desk.Goals as goal
use Rattle.mc_shared.proofs.store.Shared.answer_at_desk.Goals.{After-deref_mut-2, After-len, After-lower_all, After-raise_for-came, In-Err}

-- what is held, as the shelf and the desk are lent
holds : (g : _) → (c : After-deref_mut-2 g)
    → HoldsBoth g.K.KeyHash.hash_of c.args.self.now c.args.seat.now c.args.ask.now.at c.deref_mut.result.now.content c.deref_mut-2.result.now
holds g c =
    subst (λ (t : ShelfState × DeskState). HoldsBoth g.K.KeyHash.hash_of c.args.self.now c.args.seat.now c.args.ask.now.at t.0.content t.1)
    (λ i. (sym c.deref_mut.ensures.value i, sym c.deref_mut-2.ensures.value i)) c.requires.holds

-- how many items there were, and that one is added for a key that comes
was : (g : _) → (c : After-deref_mut-2 g) → c.len-before.result ≡ len c.deref_mut.result.now.content.items
was g c = c.len-before.ensures.count ∙ ap (λ (s : ShelfState). len s.content.items) (c.deref.ensures ∙ sym c.deref_mut.ensures.value)

none_there : {A : Type 0} (o : Option A) → is_some o ≡ false → is_none o ≡ true
none_there None none = refl
none_there (Some x) none = cc

adds : (g : _) → (c : After-raise_for-came g) → is_some (get c.deref_mut.result.now.content.items (key_of c.args.ask.now.step.now)) ≡ false → c.raise_for-came.result ≡ 1
adds g c none = c.raise_for-came.ensures.one.0
    (c.is_of_new_key-comes.ensures c.args.at_desk.shelf.value.content c.args.ask.now.step.now c.args.ask.now.moment c.requires.plan.is_plan
    ∙ none_there (get c.args.at_desk.shelf.value.content.items (key_of c.args.ask.now.step.now))
    (subst (λ (s : ShelfState). is_some (get s.content.items (key_of c.args.ask.now.step.now)) ≡ false) c.deref_mut.ensures.value none))

pub begin-requires-clause-stands : goal.begin-requires-clause-stands
begin-requires-clause-stands g c =
    let lent = (goal.at.begin-requires-clause-stands g c).After-deref_mut-2 in
    both_stand g.K.KeyHash.hash_of c.args.self.now c.args.seat.now c.args.ask.now.at c.deref_mut.result.now.content c.deref_mut-2.result.now
    (key_of c.args.ask.now.step.now) c.requires.asked.own (holds g lent)

pub raise_for-came-requires-clause-may : goal.raise_for-came-requires-clause-may
raise_for-came-requires-clause-may g c =
    let board = c.self.inside.board.shared in
    let ask = c.args.ask.now in
    let lent = (goal.at.raise_for-came-requires-clause-may g c).After-deref_mut-2 in
    let asked = subst (λ (s : SharedState g.row.K.Denot). IsAsked g.K.KeyHash.hash_of s ask) (sym c.self.view_is) c.requires.asked in
    may_raise g.K.KeyHash.hash_of board.table_id board.key.value c.args.self.now c.self.view_is c.self.invariant.0 c.args.seat.now c.args.ask.now.at
    c.deref_mut.result.now.content c.deref_mut-2.result.now (holds g lent) ask.hash (key_of ask.step.now) asked.hashed asked.own
    (omega (arith, was g lent, c.len-before.ensures.most))

pub decide-requires : goal.decide-requires
decide-requires g c =
    let hash_of = g.K.KeyHash.hash_of in
    let board = c.self.inside.board.shared in
    let began = start_of hash_of board.key.value in
    let seat = c.args.seat.now in
    let at = c.args.ask.now.at in
    let ask = c.args.ask.now in
    let step = ask.step.now in
    let key = key_of step in
    let old = c.deref_mut.result.now.content in
    let from = c.deref_mut-2.result.now in
    let to = c.begin.new.desk in
    let plan = c.begin.new.plan in
    let new = finished plan step c.begin.new.shelf.content in
    let reply = told_next plan.next in
    let what = Stepped step ask.moment reply in
    let inv = c.self.invariant in
    let lent = (goal.at.decide-requires g c).After-deref_mut-2 in
    let asked = subst (λ (s : SharedState g.row.K.Denot). IsAsked hash_of s ask) (sym c.self.view_is) c.requires.asked in
    let own = asked.own in
    let taken : StepTaken step ask.moment (began.hash_of key) old from reply new to =
    subst (λ (h : ℕ). StepTaken step ask.moment h old from reply new to) asked.hashed c.in-Ok.ensures.took in
    let by_step = λ (m : Plain) (part : IsShelfOf began.hash_of began.shelves m at old) (desk : IsDeskOf m from).
    goes_by_step step own part desk c.requires.plan.is_plan.on_key taken in
    let added : ℕ = c.raise_for-came.result in
    let shelves : began.shelves ≡ c.self.inside.settings.shelves = ap (λ s. s.shelves) inv.1 in
    let word : ℕ = word_of began.shelves (ask.hash % 4096) in
    let word_is : word ≡ word_of began.shelves (number_of began.hash_of key) = ap (λ (h : ℕ). word_of began.shelves (h % 4096)) asked.hashed in
    let raised : c.raise_for-came.new.seat.me ≡ loaded seat.me (replicate added word) =
    c.raise_for-came.ensures.view ∙ ap (λ (s : ℕ). loaded seat.me (replicate added (word_of s (ask.hash % 4096)))) (sym shelves) in
    let left : ℕ = (c.len-before.result + added) - len new.items in
    let left_is : left ≡ (added + len old.items) - len new.items = ap (λ (k : ℕ). k - len new.items) (omega (arith, was g lent)) in
    let held = loaded (holds_two seat.me.0.past began.shelves (OfDesk from) at (OfShelf old)) (replicate added word) in
    subst
    (λ (t : DeskState × ShelfState). MayDecide board.table_id board.key.value c.raise_for-came.new.seat c.self.inside.settings.shelves began
    (OfDesk t.0) what ((at, OfShelf (finished plan step t.1.content)) ∷ [])
    (replicate ((c.len-before.result + added) - len (finished plan step t.1.content).items) word)) (λ i. (sym c.of.ensures i, sym c.deref-in-Ok.ensures i))
    (at_both hash_of board.table_id board.key.value c.args.self.now c.self.view_is inv.0 seat c.raise_for-came.new.seat at c.self.inside.settings.shelves old from
    (OfDesk to) what ((at, OfShelf new) ∷ []) (replicate added word) (replicate left word) shelves (holds g lent) c.raise_for-came.ensures.seat raised
    (applies_step began at old new from to step ask.moment reply by_step)
    (counts_step began at inv.0.divides key own old new taken.others.items added left left_is (adds g (goal.at.decide-requires g c).After-raise_for-came) held.0
    (decided_by held what ((at, OfShelf new) ∷ []) (replicate left word)).0 what [] (ap (replicate added) word_is) (ap (replicate left) word_is) refl
    (λ m fits. (fits.1.0.1, (to, goes_step began at old new from to step ask.moment reply by_step m fits.1.0.1 fits.0.1)))))

-- what the shelf holds in the end
left_at : (g : _) → (c : After-len g) → c.len.result ≡ len (finished c.begin.new.plan c.args.ask.now.step.now c.deref_mut-in-Ok.result.now.content).items
left_at g c = c.len.ensures.count ∙ ap (λ (s : ShelfState). len s.content.items) c.deref-in-Ok-2.ensures ∙ ap (λ (s : ShelfContent). len s.items) c.finish-reply.ensures.content

pub overflow_sub-had : goal.overflow_sub-had
overflow_sub-had g c =
    let board = c.self.inside.board.shared in
    let at = goal.at.overflow_sub-had g c in
    let ask = c.args.ask.now in
    let new = finished c.begin.new.plan ask.step.now c.begin.new.shelf.content in
    let asked = subst (λ (s : SharedState g.row.K.Denot). IsAsked g.K.KeyHash.hash_of s ask) (sym c.self.view_is) c.requires.asked in
    let is : c.len.result ≡ len new.items =
    left_at g at.After-len ∙ ap (λ (s : ShelfState). len (finished c.begin.new.plan ask.step.now s.content).items) c.deref_mut-in-Ok.ensures.value in
    let most = enough (start_of g.K.KeyHash.hash_of board.key.value) c.args.ask.now.at c.self.invariant.0.divides (key_of ask.step.now) asked.own
    c.deref_mut.result.now.content new c.in-Ok.ensures.took.others.items c.raise_for-came.result _ refl (adds g at.After-raise_for-came) in
    omega (arith, was g at.After-deref_mut-2, is, most)

-- the words that are lowered, and what is held then
named : (g : _) → (c : After-len g) → c.decide.new.seat.me.0.surplus
    ≡ replicate ((c.len-before.result + c.raise_for-came.result) - c.len.result) (word_of c.self.inside.settings.shelves (c.args.ask.now.hash % 4096)) ++ []
named g c =
    let step = c.args.ask.now.step.now in
    let new = finished c.begin.new.plan step c.deref-in-Ok.result.now.content in
    let all : ℕ = c.len-before.result + c.raise_for-came.result in
    let left : c.len.result ≡ len new.items = left_at g c
    ∙ ap (λ (s : ShelfState). len (finished c.begin.new.plan step s.content).items) (c.deref_mut-in-Ok.ensures.value ∙ sym c.deref-in-Ok.ensures) in
    all_named c.raise_for-came.new.seat.me c.decide.new.seat.me (Stepped step c.args.ask.now.moment (told_next c.begin.new.plan.next)) ((c.args.ask.now.at, OfShelf new) ∷ []) _
    (word_of c.self.inside.settings.shelves (c.args.ask.now.hash % 4096)) (all - c.len.result) c.decide.ensures.view.0
    (λ i. replicate (all - sym left i) (word_of (c.self.invariant.1 i).shelves (c.args.ask.now.hash % 4096)))

pub lower_all-requires-clause-named : goal.lower_all-requires-clause-named
lower_all-requires-clause-named g c = ([], named g (goal.at.lower_all-requires-clause-named g c).After-len)

abbrev new : (g : _) → After-lower_all g → ShelfContent
new g c = finished c.begin.new.plan c.args.ask.now.step.now c.deref-in-Ok.result.now.content

abbrev what : (g : _) → After-lower_all g → Operation
what g c = Stepped c.args.ask.now.step.now c.args.ask.now.moment (told_next c.begin.new.plan.next)

alone : (g : _) → (c : After-lower_all g) → c.lower_all.new.seat.me ≡ loaded c.decide.new.seat.me []
    → HoldsShelf g.K.KeyHash.hash_of c.args.self.now c.lower_all.new.seat c.args.ask.now.at (new g c)
    × (c.lower_all.new.seat.me.0.past ≡ call c.args.seat.now.me.0.past (entry_of c.args.seat.now.me.0.past (what g c)))
alone g c =
    let board = c.self.inside.board.shared in
    left_held g.K.KeyHash.hash_of board.table_id board.key.value c.args.self.now c.self.view_is c.self.invariant.0 c.args.seat.now c.raise_for-came.new.seat c.decide.new.seat
    c.lower_all.new.seat c.args.ask.now.at c.args.at_desk.shelf.value.content (new g c) c.args.at_desk.desk.value (what g c) _ _ c.requires.holds
    c.raise_for-came.ensures.seat c.raise_for-came.ensures.view c.decide.ensures.seat c.decide.ensures.view c.lower_all.ensures.seat

pub give_shelf-requires : goal.give_shelf-requires
give_shelf-requires g c =
    let at = goal.at.give_shelf-requires g c in
    let content = c.finish-reply.ensures.content
    ∙ ap (λ (s : ShelfState). finished c.begin.new.plan c.args.ask.now.step.now s.content) (c.deref_mut-in-Ok.ensures.value ∙ sym c.deref-in-Ok.ensures) in
    subst (λ (f : ShelfContent). HoldsShelf g.K.KeyHash.hash_of c.args.self.now c.lower_all.new.seat c.args.ask.now.at f) (sym content)
    (alone g at.After-lower_all (c.lower_all.ensures.view [] (named g at.After-len))).0

pub returns-in-Ok-clause-answered : goal.returns-in-Ok-clause-answered
returns-in-Ok-clause-answered g c =
    let at = goal.at.returns-in-Ok-clause-answered g c in
    came_out (start_of g.K.KeyHash.hash_of c.args.self.now.began) (caller_at c.args.seat.now) (caller_at c.give_shelf.new.seat) c.args.ask.now.step.now c.args.ask.now.moment
    c.finish-reply.result (told_next c.begin.new.plan.next) Refuses
    (c.give_shelf.ensures.free.alive.seated.own ∙ sym c.requires.holds.own)
    (c.give_shelf.ensures.past ∙ (alone g at.After-lower_all (c.lower_all.ensures.view [] (named g at.After-len))).1)
    c.finish-reply.ensures.reply c.give_shelf.ensures.agrees

-- what is held, if the step isn't taken
stays : (g : _) → (c : In-Err g)
    → HoldsBoth g.K.KeyHash.hash_of c.args.self.now c.args.seat.now c.args.ask.now.at c.deref_mut.result.now.content c.begin.new.desk
stays g c = subst (λ (d : DeskState). HoldsBoth g.K.KeyHash.hash_of c.args.self.now c.args.seat.now c.args.ask.now.at c.deref_mut.result.now.content d)
    (sym (c.in-Err.ensures.err.1 ∙ c.deref_mut-2.ensures.value))
    (subst (λ (s : ShelfState). HoldsBoth g.K.KeyHash.hash_of c.args.self.now c.args.seat.now c.args.ask.now.at s.content c.args.at_desk.desk.value) (sym c.deref_mut.ensures.value)
    c.requires.holds)

pub give_desk-requires : goal.give_desk-requires
give_desk-requires g c = (c.args.ask.now.at, c.deref_mut.result.now.content, stays g (goal.at.give_desk-requires g c).In-Err)

pub give_shelf-requires-in-Err : goal.give_shelf-requires-in-Err
give_shelf-requires-in-Err g c =
    subst (λ (f : ShelfContent). HoldsShelf g.K.KeyHash.hash_of c.args.self.now c.give_desk.new.seat c.args.ask.now.at f) (sym c.in-Err.ensures.err.0)
    (c.give_desk.ensures.holds c.args.ask.now.at c.deref_mut.result.now.content (stays g (goal.at.give_shelf-requires-in-Err g c).In-Err))

pub returns-in-Err-clause-answered : goal.returns-in-Err-clause-answered
returns-in-Err-clause-answered g c =
    let ask = c.args.ask.now in
    let lent = (goal.at.returns-in-Err-clause-answered g c).After-deref_mut-2 in
    refused_both g.K.KeyHash.hash_of c.args.self.now c.args.seat.now (caller_at c.give_shelf-in-Err.new.seat) ask.at c.deref_mut.result.now.content c.deref_mut-2.result.now ask.step.now ask.moment
    c.begin.result c.in-Err.refused c.requires.asked.own (holds g lent)
    (c.give_shelf-in-Err.ensures.free.alive.seated.own ∙ sym c.requires.holds.own) (c.give_shelf-in-Err.ensures.past ∙ c.give_desk.ensures.past)
    c.in-Err.is c.begin.ensures.spent c.begin.ensures.refused
