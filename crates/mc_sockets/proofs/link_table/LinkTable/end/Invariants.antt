use Rattle.mc_sockets.specs.LinkRecords.{HappensIf}
use Rattle.mc_sockets.specs.Readiness.{Ended}
use Rattle.mc_sockets.specs.LinkTables.{ActsAt, IsFull}
use Rattle.mc_sockets.proofs.SeatLemmas.{MadeBefore}
use Rattle.mc_sockets.proofs.link_table.LinkTable.end.Given as goal

abbrev pub invariant-loop-at : goal.invariant-loop-at
invariant-loop-at g l =
    MadeBefore (λ at mid. ActsAt (HappensIf g.F.ReadinessCell.known (Ended l.parting) l.number (IsFull mid)) at mid) l.at l.fn.self l.self
