use denote.Param.Send.{sendable}
use Rattle.std.proofs.Crossing as crossing
use Rattle.mc_shared.proofs.Sent.{Lent, tuple_send, lent, heap_lent, shared_lent, caller_send}
use Rattle.mc_bench.proofs.Sent.{hasher_sync}
use Rattle.mc_bench.specs.contracts.record.Script as script
use Rattle.mc_bench.proofs.record.Script.TheSendSync as scripts
use Rattle.mc_bench.proofs.record.tell_calls.Goals as goal

script_lent : Lent script.the_row
script_lent = lent script.the_row scripts.the_sync

pub join-one-requires-send-F : goal.join-one-requires-send-F
join-one-requires-send-F g c κs within = let rt = lent _ c.type_bounds.sync-R in
    search (tuple_send, rt, heap_lent, shared_lent, hasher_sync, caller_send, script_lent, sendable) depth 60 fits 20000

pub join-one-requires-send-A : goal.join-one-requires-send-A
join-one-requires-send-A g c κs within = search (tuple_send, caller_send, crossing.crosses, sendable) depth 60 fits 20000
