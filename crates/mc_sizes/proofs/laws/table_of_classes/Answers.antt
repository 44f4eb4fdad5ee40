use Rattle.std.proofs.Common.{refl}
use Rattle.mc_sizes.specs.Classes.{chunk_sizes}
use Rattle.mc_sizes.proofs.laws.table_of_classes.Goals as goal

pub returns-clause-sizes : goal.returns-clause-sizes
unfolding chunk_sizes
returns-clause-sizes c = refl

pub returns-clause-chunks : goal.returns-clause-chunks
unfolding chunk_sizes
returns-clause-chunks c = refl

pub returns-clause-first : goal.returns-clause-first
unfolding chunk_sizes
returns-clause-first c = (refl, refl, refl)

pub returns-clause-last : goal.returns-clause-last
unfolding chunk_sizes
returns-clause-last c = (refl, refl, refl, refl)
