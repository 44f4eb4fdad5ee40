use Rattle.mc_parse.proofs.UnitLemmas.{same_spelling}
use Rattle.mc_parse.proofs.laws.no_spelling_begins_another.Goals as goal

pub returns : goal.returns
returns c = same_spelling
