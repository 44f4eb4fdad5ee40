use Rattle.mc_parse.proofs.StreamLemmas.{spelling_some}
use Rattle.mc_parse.proofs.laws.a_spelling_has_a_byte.Goals as goal

pub returns : goal.returns
returns c = spelling_some
