use Rattle.std.proofs.Common.{◌≡◌, ◌+◌}
use Rattle.mc_slab.specs.Runs.{AreRunsOf, uncut}
use Rattle.mc_slab.proofs.run.make_runs.Given as goal

abbrev pub invariant-loop-left : goal.invariant-loop-left
invariant-loop-left l = record {
  made : uncut l.runs.items + l.left ≡ uncut l.fn.runs.items + l.fn.count;
  runs : AreRunsOf l.class l.runs.items;
}

abbrev pub decreases-loop-left : goal.decreases-loop-left
decreases-loop-left l = l.left
