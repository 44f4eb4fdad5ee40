use Rattle.std.proofs.Common.{◌≤◌}
use Rattle.mc_guests.proofs.LeavingLemmas.{SettlesAllTo}
use Rattle.mc_guests.proofs.guests.Guests.settle.Given as goal

abbrev pub invariant-loop-at : goal.invariant-loop-at
invariant-loop-at g l = SettlesAllTo g.L.LeavingLink.leaves l.at l.fn.self l.self l.fn.end l.end × (l.at ≤ l.self.awake)
