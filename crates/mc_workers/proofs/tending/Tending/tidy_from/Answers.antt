use Rattle.mc_time.specs.Chains.{none_yet, one_more}
use Rattle.mc_workers.proofs.tending.Tending.tidy_from.Goals as goal

pub loop-init : goal.loop-init
loop-init g c = (none_yet, c.requires)

pub loop-preserved : goal.loop-preserved
loop-preserved g c = (
  one_more c.loop.invariant.0 (c.tidy_one-next.ensures.purged, c.tidy_one-next.ensures.next),
  c.tidy_one-next.ensures.within,
)
