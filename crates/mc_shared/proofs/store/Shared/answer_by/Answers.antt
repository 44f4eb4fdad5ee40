use Rattle.mc_shared.proofs.Words.{sym, ap, ◌∙◌, subst, ShelfState, ShelfContent, HoldsShelf, HoldsBoth}
use Rattle.mc_shared.proofs.store.Shared.answer_by.Goals as goal
use Rattle.mc_shared.proofs.store.Shared.answer_by.Goals.{After-deref-2}

-- the shelf is held as it was taken
held : (g : _) → (c : After-deref-2 g) → HoldsShelf g.K.KeyHash.hash_of c.args.self.now c.take_shelf.new.seat c.args.ask.now.at c.deref-2.result.now.content
held g c = subst (λ (f : ShelfContent). HoldsShelf g.K.KeyHash.hash_of c.args.self.now c.take_shelf.new.seat c.args.ask.now.at f)
    (sym (ap (λ (s : ShelfState). s.content) c.deref-2.ensures ∙ (c.look-looked.ensures.content ∙ ap (λ (s : ShelfState). s.content) c.deref_mut.ensures.value))) c.in-Ok.ensures.ok

pub take_desk_for-requires-clause-holds : goal.take_desk_for-requires-clause-holds
take_desk_for-requires-clause-holds g c =
    (c.args.ask.now.at, c.deref-2.result.now.content, held g (goal.at.take_desk_for-requires-clause-holds g c).After-deref-2)

pub give_shelf-requires-in-Err-take_desk_for : goal.give_shelf-requires-in-Err-take_desk_for
give_shelf-requires-in-Err-take_desk_for g c =
    subst (λ (s : ShelfState). HoldsShelf g.K.KeyHash.hash_of c.args.self.now c.take_desk_for.new.seat c.args.ask.now.at s.content) c.deref-2.ensures
    (c.in-Err-take_desk_for.ensures.stays c.args.ask.now.at c.deref-2.result.now.content (held g (goal.at.give_shelf-requires-in-Err-take_desk_for g c).After-deref-2))

pub answer_at_desk-requires-clause-holds : goal.answer_at_desk-requires-clause-holds
answer_at_desk-requires-clause-holds g c =
    subst (λ (s : ShelfState). HoldsBoth g.K.KeyHash.hash_of c.args.self.now c.take_desk_for.new.seat c.args.ask.now.at s.content c.in-Ok-take_desk_for.taken.0.value)
    c.deref-2.ensures
    (c.in-Ok-take_desk_for.ensures.ok c.args.ask.now.at c.deref-2.result.now.content (held g (goal.at.answer_at_desk-requires-clause-holds g c).After-deref-2))
