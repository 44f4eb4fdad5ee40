use Rattle.mc_parse.proofs.StreamLemmas.{some_units, same_units}
use Rattle.mc_parse.proofs.laws.one_list_of_units.Goals as goal

pub returns-clause-some : goal.returns-clause-some
returns-clause-some c = some_units

pub returns-clause-same : goal.returns-clause-same
returns-clause-same c = same_units
