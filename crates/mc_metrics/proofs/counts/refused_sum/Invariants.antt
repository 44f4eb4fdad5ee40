use Rattle.std.proofs.Common.{take}
use Rattle.std.specs.Arc.{arc_value}
use Rattle.mc_metrics.specs.Sums.{Refuses, IsSum}
use Rattle.mc_metrics.proofs.counts.refused_sum.Given as goal

abbrev pub invariant-loop-worker : goal.invariant-loop-worker
invariant-loop-worker g l =
    IsSum (λ worker. Refuses g.C.SharedCount.was_read l.class (arc_value worker)) (take l.worker-index l.workers) l.sum
