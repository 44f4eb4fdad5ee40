use Rattle.mc_served.proofs.SameLemmas.{runs_same, worlds_same}
use Rattle.mc_served.proofs.laws.events_determine_the_world.Goals as goal

pub returns : goal.returns
returns g c = record {
  plain = λ hash shelves old new other events one two. runs_same hash shelves events old other new two one;
  worlds = worlds_same;
}
