use Rattle.mc_protocol.proofs.PageLemmas.{enough, least}
use Rattle.mc_protocol.proofs.laws.wanted_pages_are_least.Goals as goal

pub returns : goal.returns
returns c = record { enough = enough; least = least }
