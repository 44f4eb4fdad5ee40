use Rattle.mc_shelf.proofs.AsideLemmas.{collected_one}
use Rattle.mc_shelf.proofs.collector.collect_of.Goals as goal

pub returns-in-Some-clause-collected : goal.returns-in-Some-clause-collected
returns-in-Some-clause-collected c = collected_one c.in-Some.ensures.off c.give_all.ensures.given c.give_all.ensures.is_slab
