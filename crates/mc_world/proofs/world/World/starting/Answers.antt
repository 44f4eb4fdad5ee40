use Rattle.mc_world.proofs.Words.{ap}
use Rattle.mc_world.proofs.WorldLemmas.{new_stands}
use Rattle.mc_world.proofs.world.World.starting.Goals as goal

pub invariant_of-result : goal.invariant_of-result
invariant_of-result g c = new_stands _ (ap (λ w. w.sessions) c.new.ensures)
