use Rattle.std.proofs.Common.{◌≡◌, ◌∙◌, ◌<◌, length, arith}
use Rattle.std.proofs.lemmas.List.{length-set}
use Rattle.std.specs.Arc.{arc_value}
use Rattle.mc_metrics.specs.Sums.{Counts, IsSum}
use Rattle.mc_metrics.proofs.SumLemmas.{set_next}
use Rattle.mc_metrics.proofs.counts.sums_of.Goals as goal

pub loop-at-preserved : goal.loop-at-preserved
loop-at-preserved g c = (
  length-set c.loop-at.sums c.loop-at.at c.sum_at.result ∙ c.loop-at.invariant.0,
  set_next (λ place sum. IsSum (λ worker. Counts g.C.SharedCount.was_read place (arc_value worker)) c.args.workers.now sum)
      c.loop-at.sums c.loop-at.at c.sum_at.result (omega (arith, c.loop-at-test.true, c.loop-at.invariant.0)) c.loop-at.invariant.1 c.sum_at.ensures,
)
