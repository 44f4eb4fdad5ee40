use Rattle.mc_sockets.proofs.SeatLemmas.{Looked}
use Rattle.mc_sockets.proofs.link_table.LinkTable.look_in_turn.Given as goal

abbrev pub invariant-loop-one : goal.invariant-loop-one
invariant-loop-one g l =
    Looked g.F.ReadinessCell.known g.R.Rests.sends l.patrol l.before l.now l.fn.watch l.fn.self l.fn.rests l._one l.watch l.self l.rests
