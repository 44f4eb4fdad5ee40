use denote.Param.Send.{sendable}
use Rattle.std.proofs.Crossing as crossing
use Rattle.mc_shared.proofs.Sent.{Lent, tuple_send, lent, heap_lent, shared_lent, caller_send}
use Rattle.mc_shared_tests.specs.contracts.tests.thread_tests.Errand as errand
use Rattle.mc_shared_tests.proofs.tests.thread_tests.Errand.TheSendSync as errands
use Rattle.mc_shared_tests.proofs.tests.thread_tests.Came.TheSendSync as came
use Rattle.mc_shared_tests.proofs.tests.thread_tests.both.Goals as goal

errand_lent : Lent errand.the_row
errand_lent = lent errand.the_row errands.the_sync

pub join-mine-requires-send-F : goal.join-mine-requires-send-F
join-mine-requires-send-F g c κs within = let rt = lent _ c.type_bounds.sync-R in let hasher = c.type_bounds.sync-K in
    search (tuple_send, rt, heap_lent, shared_lent, hasher, caller_send, errand_lent, sendable) depth 60 fits 20000

pub join-mine-requires-send-A : goal.join-mine-requires-send-A
join-mine-requires-send-A g c κs within = search (tuple_send, caller_send, came.the_send, crossing.crosses, sendable) depth 60 fits 20000
