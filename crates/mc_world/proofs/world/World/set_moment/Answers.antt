use Rattle.mc_world.proofs.WorldLemmas.{can_move}
use Rattle.mc_world.proofs.world.World.set_moment.Goals as goal

pub invariant_of-self : goal.invariant_of-self
invariant_of-self g c = can_move _ c.args.now c.self.invariant
