use denote.Param.{param}
use denote.Param.Send.{IsSync, param_sync, sendable}
use Rattle.std.proofs.Common.{rules}
use Rattle.mc_shared.proofs.Sent.{tuple_send, lent, shared_lent, caller_send}
use Rattle.mc_run.proofs.Sent.{common_lent, hasher_sync}
use Rattle.mc_options.specs.contracts.options.Options as options
use Rattle.mc_options.proofs.options.Options.TheSendSync as options_sent
use Rattle.mc_run.proofs.plan.LoggerTask.TheSendSync as task
use Rattle.mc_run.proofs.threads.start_logger.Goals as goal

pub spawn_with-requires-send-F : goal.spawn_with-requires-send-F
spawn_with-requires-send-F g c κs within =
    let runtime : IsSync g.row.R = search rules parts 8 in
    let runtime_lent = lent (param 1 g.row.R) (param_sync 1 g.row.R runtime) in
    let options_lent = lent options.the_row options_sent.the_sync in
    search (tuple_send, runtime_lent, shared_lent, hasher_sync, caller_send, common_lent, options_lent, task.the_send, sendable) depth 60 fits 20000

pub spawn_with-requires-send-T : goal.spawn_with-requires-send-T
spawn_with-requires-send-T g c κs within = search (caller_send, sendable) depth 60 fits 20000
