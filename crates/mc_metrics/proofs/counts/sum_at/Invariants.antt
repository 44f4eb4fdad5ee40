use Rattle.std.proofs.Common.{take}
use Rattle.std.specs.Arc.{arc_value}
use Rattle.mc_metrics.specs.Sums.{Counts, IsSum}
use Rattle.mc_metrics.proofs.counts.sum_at.Given as goal

abbrev pub invariant-loop-worker : goal.invariant-loop-worker
invariant-loop-worker g l =
    IsSum (λ worker. Counts g.C.SharedCount.was_read l.place (arc_value worker)) (take l.worker-index l.workers) l.sum
