use Rattle.std.specs.Slice.Iter.{iter_rest}
use Rattle.mio.specs.Events.{items}
use Rattle.mc_sockets.specs.LinkTables.{Hears}
use Rattle.mc_sockets.proofs.SeatLemmas.{HeardBut}
use Rattle.mc_sockets.proofs.link_table.LinkTable.hear_all.Given as goal

abbrev pub invariant-loop-event : goal.invariant-loop-event
invariant-loop-event g l =
    HeardBut (Hears g.F.ReadinessCell.known g.R.Rests.sends) (iter_rest l.event-iterator) (items l.events) l.fn.self l.self l.fn.rests l.rests
