use Rattle.mc_run.specs.Meetings.{IsCrew, IsOwed}
use Rattle.mc_run.proofs.threads.start_workers.Given as goal

abbrev pub invariant-loop-plan : goal.invariant-loop-plan
invariant-loop-plan g l =
    IsCrew l.fn.system l.fn.plans.items l.plan-iterator.rest.items l.fn.client l.crew
    × IsOwed l.fn.client l.crew
