use Rattle.mc_shared.proofs.Words.{[], sym, subst, ShelfState, PlanIsSettled, OfShelf, start_of, Stepped, MayDecide, HoldsShelf, IsPlan}
use Rattle.mc_shared.proofs.Held.{at_settled}
use Rattle.mc_shared.proofs.store.Shared.settle.Goals as goal

pub decide-requires : goal.decide-requires
decide-requires g c =
    let board = c.self.inside.board.shared in
    let ask = c.args.ask.now in
    let step = ask.step.now in
    let here = c.deref_mut.ensures.value in
    let old = c.deref_mut.result.now.content in
    let reply = c.settle-reply.result in
    let holds = subst (λ (s : ShelfState). HoldsShelf g.K.KeyHash.hash_of c.args.self.now c.args.seat.now ask.at s.content) (sym here) c.requires.holds in
    let plan = subst (λ (s : ShelfState). IsPlan c.args.plan s.content step ask.moment) (sym here) c.requires.plan.is_plan in
    subst (λ (s : ShelfState). MayDecide board.table_id board.key.value c.args.seat.now ask.at (start_of g.K.KeyHash.hash_of board.key.value) (OfShelf s.content)
    (Stepped step ask.moment reply) [] []) (sym c.of.ensures)
    (at_settled g.K.KeyHash.hash_of board.table_id board.key.value c.args.self.now c.self.view_is c.self.invariant.0 c.args.seat.now ask old c.settle-reply.new.self.content reply
    holds c.requires.asked plan.on_key
    (subst (λ h. PlanIsSettled step ask.moment h old reply c.settle-reply.new.self.content) c.requires.plan.hashed (c.settle-reply.ensures.told step ask.moment plan)))
