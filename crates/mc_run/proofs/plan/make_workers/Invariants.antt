use Rattle.std.proofs.Common.{◌≡◌, ◌≤◌, length}
use Rattle.std.specs.Prelude.{All}
use Rattle.mc_run.specs.Plans.{IsWorkerOf}
use Rattle.mc_run.proofs.plan.make_workers.Given as goal

abbrev pub invariant-loop-worker : goal.invariant-loop-worker
invariant-loop-worker g l =
    (l.worker ≤ l.options.workers) × (length l.workers.plans.items ≡ l.worker)
    × All (IsWorkerOf l.options) l.workers.plans.items
