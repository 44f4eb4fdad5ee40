use Rattle.std.proofs.Common.{◌≡◌, arith, length}
use Rattle.mc_run.proofs.PlanLemmas.{all_fit}
use Rattle.mc_run.proofs.plan.make_workers.Goals as goal

pub returns : goal.returns
returns g c =
    let (inside, count, each) = c.loop-worker.invariant in
    let all : length c.loop-worker.workers.plans.items ≡ c.args.options.now.workers = omega (arith, inside, count, c.loop-worker-test.false) in
    record { count = all; each = each; together = all_fit c.args.options.now c.loop-worker.workers.plans.items all each }
