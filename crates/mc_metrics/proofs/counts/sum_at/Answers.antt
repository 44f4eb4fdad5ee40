use Rattle.std.proofs.Common.{subst}
use Rattle.std.specs.Arc.{arc_value}
use Rattle.mc_metrics.specs.Sums.{Counts}
use Rattle.mc_metrics.proofs.SumLemmas.{one_more}
use Rattle.mc_metrics.proofs.counts.sum_at.Goals as goal

pub loop-worker-preserved : goal.loop-worker-preserved
loop-worker-preserved g c =
    one_more (λ worker. Counts g.C.SharedCount.was_read c.args.place (arc_value worker)) c.args.workers.now c.loop-worker.worker-index
    c.worker-item.result c.loop-worker.sum c.at-sum.result c.loop-worker-test.true c.worker-item.is
    (subst (λ of_worker. Counts g.C.SharedCount.was_read c.args.place of_worker c.at-sum.result) c.deref.ensures c.at-sum.ensures) c.loop-worker.invariant
