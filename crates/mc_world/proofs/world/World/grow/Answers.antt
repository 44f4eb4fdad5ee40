use Rattle.mc_world.proofs.Words.{subst, sym, CanStand, eight_moved}
use Rattle.mc_world.proofs.WorldLemmas.{can_grow}
use Rattle.mc_world.proofs.world.World.grow.Goals as goal

pub invariant_of-self : goal.invariant_of-self
invariant_of-self g c = subst CanStand (sym c.grow.ensures) (can_grow _ (eight_moved c.args.shelf c.self.inside.parts.store.left) c.self.invariant)
