use Rattle.std.proofs.Common.{subst}
use Rattle.std.specs.Arc.{arc_value}
use Rattle.mc_metrics.specs.Sums.{Refuses}
use Rattle.mc_metrics.proofs.SumLemmas.{one_more}
use Rattle.mc_metrics.proofs.counts.refused_sum.Goals as goal

pub loop-worker-preserved : goal.loop-worker-preserved
loop-worker-preserved g c =
    one_more (λ worker. Refuses g.C.SharedCount.was_read c.args.class (arc_value worker)) c.args.workers.now c.loop-worker.worker-index
    c.worker-item.result c.loop-worker.sum c.refused_at-sum.result c.loop-worker-test.true c.worker-item.is
    (subst (λ of_worker. Refuses g.C.SharedCount.was_read c.args.class of_worker c.refused_at-sum.result) c.deref.ensures c.refused_at-sum.ensures) c.loop-worker.invariant
