use Rattle.std.proofs.Common.{List, subst}
use Rattle.mc_run.specs.Meetings.{IsCrew}
use Rattle.mc_run.specs.declared.plan.WorkerPlan.{WorkerPlan}
use Rattle.mc_run.proofs.MeetLemmas.{crew_grows, owed_grows}
use Rattle.mc_run.proofs.threads.start_workers.Goals as goal

pub loop-plan-preserved : goal.loop-plan-preserved
loop-plan-preserved g c =
    let was = c.loop-plan.invariant in
    let old = c.loop-plan.crew in
    let new = c.start_worker.new.crew in
    let rest = c.next.new.self.rest.items in
    let starts = c.in_default.ensures.started in
    let system = c.args.system.now in (
      crew_grows system c.args.plans.items rest c.in-Some.plan c.args.client old new starts (subst (λ (l : List WorkerPlan). IsCrew system c.args.plans.items l c.args.client old) c.in-Some.ensures.steps.0 was.0),
      owed_grows system c.args.plans.items rest c.in-Some.plan c.args.client old new starts was.1,
    )
