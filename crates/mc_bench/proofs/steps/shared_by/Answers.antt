use denote.Param.Send.{sendable}
use Rattle.mc_shared.proofs.Sent.{Lent, tuple_send, lent, heap_lent, shared_lent, caller_send}
use Rattle.mc_bench.proofs.Sent.{hasher_sync}
use Rattle.mc_bench.specs.contracts.steps.Load as load
use Rattle.mc_bench.proofs.steps.Load.TheSendSync as loads
use Rattle.mc_bench.proofs.steps.shared_by.Goals as goal

load_lent : Lent load.the_row
load_lent = lent load.the_row loads.the_sync

pub join-one-requires-send-F : goal.join-one-requires-send-F
join-one-requires-send-F g c κs within = let rt = lent _ c.type_bounds.sync-R in
    search (tuple_send, rt, heap_lent, shared_lent, hasher_sync, caller_send, load_lent, sendable) depth 60 fits 20000
