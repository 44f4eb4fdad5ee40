use Rattle.mc_run.proofs.ServedLemmas.{has_served}
use Rattle.mc_run.proofs.listening.serve_over.Goals as goal

pub returns-in-Ok : goal.returns-in-Ok
returns-in-Ok g c =
    has_served c.args.options.now (g.S.Clock.may_give c.args.system.now) c.in_ok-plan.plan.threads.tasks.workers.items c.args.client c.serve-caller.result c.requires.new c.requires.first c.in_ok-plan.ensures.workers c.serve-caller.ensures
    c.in-Ok.is
