use denote.Ref.{NamedLft}
use denote.Param.Send.{IsSync, sendable}
use Rattle.std.proofs.Crossing as crossing
use Rattle.mc_hop.specs.contracts.hash.Fnv as fnv
use Rattle.mc_shared.proofs.Sent.{Lent, tuple_send, lent, heap_lent, shared_lent, caller_send}
use Rattle.mc_workers_tests.specs.contracts.held.Seen as seen
use Rattle.mc_workers_tests.proofs.held.Seen.TheSendSync as seens
use Rattle.mc_guests.proofs.guests.WorkEnd.TheSendSync as ends
use Rattle.mc_workers_tests.specs.contracts.tests.gate_tests.HoldsShelf as gate
use Rattle.mc_workers_tests.proofs.tests.gate_tests.HoldsShelf.TheSendSync as gates
use Rattle.mc_workers_tests.proofs.tests.gate_tests.both_get.Goals as goal

hasher_sync : IsSync fnv.the_row
hasher_sync = search sendable

seen_lent : Lent seen.the_row
seen_lent = lent seen.the_row seens.the_sync

gate_lent : (a : NamedLft) → Lent (gate.the_row a)
gate_lent a = lent (gate.the_row a) (gates.the_sync a)

pub join-mine-requires-send-F : goal.join-mine-requires-send-F
join-mine-requires-send-F g c κs within = let rt = lent _ c.type_bounds.sync-R in
    search (tuple_send, rt, heap_lent, shared_lent, hasher_sync, caller_send, seen_lent, gate_lent, sendable) depth 60 fits 20000

pub join-mine-requires-send-A : goal.join-mine-requires-send-A
join-mine-requires-send-A g c κs within = search (tuple_send, caller_send, ends.the_send, crossing.crosses, sendable) depth 60 fits 20000
