use Rattle.mc_guests.specs.Judging.{FindsSlowest, sought_rate}
use Rattle.mc_guests.proofs.row.GuestRow.slowest.Given as goal

abbrev pub invariant-loop-at : goal.invariant-loop-at
invariant-loop-at g l = FindsSlowest (sought_rate l.sought l.ticks) l.at l.found l.fn.self.guests
