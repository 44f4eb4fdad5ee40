use Rattle.mc_protocol.proofs.PageLemmas.{pages_grow, limit_stays, pages_within}
use Rattle.mc_protocol.proofs.laws.pages_stay.Goals as goal

pub returns : goal.returns
returns c = record { never_fall = pages_grow; limit = limit_stays; within = pages_within }
