use Rattle.mc_world.proofs.Words.{List, subst, sym, SessionState, CanStand, state_of}
use Rattle.mc_world.proofs.WorldLemmas.{sent_stands}
use Rattle.mc_world.proofs.world.World.sent.Goals as goal

pub invariant_of-self : goal.invariant_of-self
invariant_of-self g c = let old = state_of c.self.inside.parts in
    subst (λ (ss : List SessionState). CanStand (record old { sessions = ss })) (sym c.drop_sent.ensures) (sent_stands old c.args.session c.args.n c.self.invariant)
