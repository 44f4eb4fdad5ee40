use Rattle.std.proofs.Common.{refl}
use Rattle.mc_sockets.proofs.SeatLemmas.{heard_nothing}
use Rattle.mc_sockets.proofs.links.SocketLinks.hear_events.Goals as goal

pub returns-in-Err-clause-heard : goal.returns-in-Err-clause-heard
returns-in-Err-clause-heard g c = heard_nothing _ _ _ _ _ _ c.in-Err.ensures.err refl refl
