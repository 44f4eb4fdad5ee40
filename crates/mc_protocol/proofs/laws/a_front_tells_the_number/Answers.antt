use Rattle.mc_protocol.proofs.NumberLemmas.{number_of-joined}
use Rattle.mc_protocol.proofs.laws.a_front_tells_the_number.Goals as goal

pub returns : goal.returns
returns c = number_of-joined
