use Rattle.std.proofs.Common.{[], subst}
use Rattle.mc_run.specs.Clients.{ClientState, maker}
use Rattle.mc_run.specs.Meetings.{IsCrew, IsOwed}
use Rattle.mc_run.proofs.MeetLemmas.{if_ok, on_any}
use Rattle.mc_run.proofs.threads.start_all.Goals as goal

pub returns-clause-all : goal.returns-clause-all
returns-clause-all g c =
    let started = c.start_workers-crew in
    let Stands : ClientState → Type 0 = λ client. IsCrew c.args.system.now c.args.plan.tasks.workers.items [] client started.result.0 × IsOwed client started.result.0 in
    on_any (Stands (maker c.args.client)) c.start_logger.result
    (subst Stands c.caller-logger.ensures.maker (if_ok (λ x. Stands c.caller-logger.new.self) started.result.1 c.in_default.field-0 c.in_default.is started.ensures.all))
