use Rattle.std.proofs.Common.{◌≡◌, ◌∙◌, ap}
use Rattle.mc_run.specs.Clients.{caller_of, newcomer}
use Rattle.mc_run.proofs.MeetLemmas.{if_ok, all_meet}
use Rattle.mc_run.proofs.threads.serve_in.Goals as goal

pub returns-in-Ok : goal.returns-in-Ok
returns-in-Ok g c =
    let started = c.start_all-crew in
    let second = c.caller-stats.new.self in
    let readers = c.join_readers-client in
    let logger = c.join.ensures ∙ if_ok (λ thread. thread.promise.0.value ≡ newcomer second) started.result.1 c.in-Ok.logger c.in-Ok.is started.ensures.logger in
    let stats = c.run_own-stats.ensures ∙ (ap caller_of c.new.ensures ∙ c.caller-stats.ensures.caller) in
    all_meet (g.S.Clock.may_give c.args.system.now) c.args.system.now c.args.plan.threads.tasks.workers.items c.args.client second c.join_workers-client.result readers.result started.result.0 started.result.1 c.in-Ok.logger c.join.result
    c.run_own-stats.result c.into_parts.result.1 c.caller-stats.ensures.maker c.in-Ok.is started.ensures.all c.join_workers-client.ensures logger stats readers.ensures.joined readers.ensures.agrees c.into_parts.ensures.caller
