use Rattle.mc_run.specs.Clients.{caller_of}
use Rattle.mc_run.proofs.MeetLemmas.{has_worked}
use Rattle.mc_run.proofs.threads.run_worker.Goals as goal

pub returns : goal.returns
returns g c =
    let (shared, caller) = c.into_parts-caller.result in
    has_worked (g.S.Clock.may_give c.args.system.now) c.args.plan shared.now.began c.args.client.began caller (caller_of c.args.client) c.work.result c.into_parts-caller.ensures.began c.into_parts-caller.ensures.caller c.work.ensures.same
    c.work.ensures.calls c.work.ensures.works.0
