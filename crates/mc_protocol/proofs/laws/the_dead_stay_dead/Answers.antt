use Rattle.mc_protocol.proofs.LawLemmas.{dead_later}
use Rattle.mc_protocol.proofs.laws.the_dead_stay_dead.Goals as goal

pub returns : goal.returns
returns c = dead_later
