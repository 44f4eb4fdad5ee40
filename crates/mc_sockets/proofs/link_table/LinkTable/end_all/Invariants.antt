use Rattle.std.proofs.Common.{◌≡◌}
use Rattle.mc_sockets.specs.LinkRecords.{HappensTo}
use Rattle.mc_sockets.specs.Readiness.{Ended}
use Rattle.mc_sockets.specs.LinkTables.{ActsAt, IsFull}
use Rattle.mc_sockets.proofs.SeatLemmas.{MadeBefore}
use Rattle.mc_sockets.proofs.link_table.LinkTable.end_all.Given as goal

abbrev pub invariant-loop-at : goal.invariant-loop-at
invariant-loop-at g l =
    MadeBefore (λ at mid. ActsAt (HappensTo g.F.ReadinessCell.known (Ended l.parting) (IsFull mid)) at mid) l.at l.fn.self l.self
    × (l.self.given ≡ l.fn.self.given)
