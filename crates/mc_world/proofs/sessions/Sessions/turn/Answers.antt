use Rattle.mc_world.proofs.Words.{List, subst, slice_set, SessionState, IsOpenAt, TurnGiven}
use Rattle.mc_world.proofs.TurnLemmas.{given}
use Rattle.mc_world.proofs.sessions.Sessions.turn.Goals as goal

pub returns : goal.returns
returns g c = let items = c.self.inside.list.items in let turn = c.turn.ensures in
    let is_at = subst (λ (l : List SessionState). IsOpenAt l c.args.number c.in-Some.at) c.deref.ensures.value c.in-Some.ensures.some in
    subst (λ (l : List SessionState). TurnGiven g.S.Steps c.args.number c.args.now c.turn.result l (slice_set items c.in-Some.at c.turn.new.self) c.args.store.now c.turn.new.store) c.self.view_is
    (given g.S.Steps c.args.number c.args.now items c.in-Some.at c.index_mut.result.now c.turn.new.self c.args.store.now c.turn.new.store is_at c.index_mut.ensures.value c.turn.result
    turn.did turn.idle turn.closed turn.err turn.due turn.undecided turn.decided)
