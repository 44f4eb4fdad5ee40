use Rattle.std.proofs.Common.{◌≡◌}
use Rattle.mc_guests.specs.Admissions.{WakesNamed}
use Rattle.mc_guests.proofs.link_calls.LinkCalls.wake_named.Given as goal

abbrev pub invariant-loop : goal.invariant-loop
invariant-loop g l = WakesNamed l.fn.self l.fn.guests l.self l.guests × (l.self.names ≡ l.counter) × (g.Q.Links.coming l.links ≡ g.Q.Links.coming l.fn.links)
