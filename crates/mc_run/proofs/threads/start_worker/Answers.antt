use denote.Param.{param}
use denote.Param.Send.{IsSync, param_sync, sendable}
use Rattle.std.proofs.Common.{rules, ap, ◌∙◌}
use Rattle.mc_shared.proofs.Sent.{tuple_send, lent, shared_lent, caller_send}
use Rattle.mc_run.proofs.Sent.{common_lent, hasher_sync}
use Rattle.mc_guests.proofs.guests.WorkEnd.TheSendSync as end
use Rattle.mc_run.proofs.MeetLemmas.{starts_one}
use Rattle.mc_run.proofs.plan.WorkerPlan.TheSendSync as plan
use Rattle.mc_run.proofs.threads.start_worker.Goals as goal

pub spawn_with-requires-send-F : goal.spawn_with-requires-send-F
spawn_with-requires-send-F g c κs within =
    let runtime : IsSync g.row.R = search rules parts 8 in
    let clock : IsSync g.row.S = search rules parts 8 in
    let runtime_lent = lent (param 1 g.row.R) (param_sync 1 g.row.R runtime) in
    let clock_lent = lent (param 2 g.row.S) (param_sync 2 g.row.S clock) in
    search (tuple_send, runtime_lent, clock_lent, shared_lent, hasher_sync, caller_send, common_lent, plan.the_send, sendable) depth 60 fits 20000

pub spawn_with-requires-send-T : goal.spawn_with-requires-send-T
spawn_with-requires-send-T g c κs within = search (tuple_send, caller_send, end.the_send, sendable) depth 60 fits 20000

pub returns-in-Ok-clause-started : goal.returns-in-Ok-clause-started
returns-in-Ok-clause-started g c =
    let made = c.caller-caller in
    starts_one c.add.result c.args.system.now c.args.plan c.args.crew.now c.add.new.self c.in-Ok.thread _ made.new.self made.result made.ensures.maker made.ensures.caller made.ensures.agrees c.add.ensures.same c.add.ensures.added
    c.in-Ok.ensures.ok c.of.ensures (ap (λ shared. shared.began) c.of-2.ensures ∙ c.store-shared.ensures.began) c.of-3.ensures c.of-4.ensures
