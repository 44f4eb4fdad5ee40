use Rattle.mc_world.proofs.EventLemmas.{growth_shows}
use Rattle.mc_world.proofs.laws.growth_never_shows.Goals as goal

pub returns : goal.returns
returns c = λ shelf front rest hash shelves old new. growth_shows hash shelves shelf old new front rest
