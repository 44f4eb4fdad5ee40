use Rattle.std.proofs.Common.{◌≡◌}
use Rattle.mc_slab.specs.Runs.{AreRunsOf, uncut}
use Rattle.mc_slab.proofs.run.Runs.keep_at_most.Given as goal

abbrev pub invariant-loop-count : goal.invariant-loop-count
invariant-loop-count l = record {
  count : uncut l.runs.items ≡ l.count;
  runs : AreRunsOf l.class l.runs.items;
}

abbrev pub decreases-loop-count : goal.decreases-loop-count
decreases-loop-count l = l.count
