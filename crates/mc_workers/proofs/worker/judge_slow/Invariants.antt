use Rattle.std.proofs.Common.{◌≡◌}
use Rattle.mc_workers.specs.Room.{JudgesSlow}
use Rattle.mc_workers.proofs.worker.judge_slow.Given as goal

abbrev pub invariant-loop : goal.invariant-loop
invariant-loop g l = JudgesSlow l.counter l.fn.guests l.guests × (g.Q.Links.coming l.links ≡ g.Q.Links.coming l.fn.links)
