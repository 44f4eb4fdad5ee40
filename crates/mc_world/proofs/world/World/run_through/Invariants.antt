use Rattle.std.proofs.Common.{◌≤◌, take}
use Rattle.mc_world.specs.Refusals.{ToldThrough}
use Rattle.mc_world.proofs.world.World.run_through.Given as goal

abbrev pub invariant-loop-event : goal.invariant-loop-event
invariant-loop-event g l = ToldThrough g.K.KeyHash.hash_of l.refused l.fn.self (take l.event-index l.events) l.self × (l.refused ≤ l.event-index)
