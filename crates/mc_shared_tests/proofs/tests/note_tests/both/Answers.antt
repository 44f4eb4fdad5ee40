use denote.Param.Send.{sendable}
use Rattle.std.proofs.Crossing as crossing
use Rattle.mc_shared.proofs.Sent.{Lent, tuple_send, lent, heap_lent, shared_lent, caller_send, note_send}
use Rattle.mc_shared_tests.specs.contracts.tests.note_tests.Turn as turn
use Rattle.mc_shared_tests.proofs.tests.note_tests.Turn.TheSendSync as turns
use Rattle.mc_shared_tests.proofs.tests.note_tests.both.Goals as goal

turn_lent : Lent turn.the_row
turn_lent = lent turn.the_row turns.the_sync

pub join-a-requires-send-F : goal.join-a-requires-send-F
join-a-requires-send-F g c κs within = let rt = lent _ c.type_bounds.sync-R in let hasher = c.type_bounds.sync-K in
    search (tuple_send, rt, heap_lent, shared_lent, hasher, caller_send, note_send, turn_lent, sendable) depth 60 fits 20000

pub join-a-requires-send-A : goal.join-a-requires-send-A
join-a-requires-send-A g c κs within = search (tuple_send, caller_send, note_send, crossing.crosses, sendable) depth 60 fits 20000
