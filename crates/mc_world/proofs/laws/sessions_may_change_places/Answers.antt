use Rattle.mc_world.proofs.EventLemmas.{places_change}
use Rattle.mc_world.proofs.laws.sessions_may_change_places.Goals as goal

pub returns : goal.returns
returns c = λ hash shelves n still other old new front rest decides apart. places_change hash shelves n still other old new front rest decides apart
