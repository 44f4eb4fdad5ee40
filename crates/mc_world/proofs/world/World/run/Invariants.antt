use Rattle.std.proofs.Common.{take}
use Rattle.mc_world.specs.Worlds.{Told}
use Rattle.mc_world.proofs.world.World.run.Given as goal

abbrev pub invariant-loop-at : goal.invariant-loop-at
invariant-loop-at g l = Told g.K.KeyHash.hash_of l.fn.self (take l.at l.events) l.self
