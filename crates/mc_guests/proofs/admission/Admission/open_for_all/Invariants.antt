use Rattle.mc_guests.specs.Arrivals.{seen_by}
use Rattle.mc_guests.proofs.ArrivalLemmas.{CameTo}
use Rattle.mc_guests.proofs.admission.Admission.open_for_all.Given as goal

abbrev pub invariant-loop : goal.invariant-loop
invariant-loop g l = CameTo g.L.LeavingLink.leaves l.counter l.fn.self l.self l.fn.guests l.guests l.fn.end l.end (seen_by g.L.Link.shown (g.Q.Links.coming l.fn.links)) (seen_by g.L.Link.shown (g.Q.Links.coming l.links))
