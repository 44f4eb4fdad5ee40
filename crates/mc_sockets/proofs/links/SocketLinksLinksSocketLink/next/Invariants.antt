use Rattle.std.proofs.Common.{◌≡◌}
use Rattle.mc_sockets.proofs.links.SocketLinksLinksSocketLink.next.Given as goal

abbrev pub invariant-loop-one : goal.invariant-loop-one
invariant-loop-one g l = l.self.seats.given ≡ l.fn.self.seats.given
