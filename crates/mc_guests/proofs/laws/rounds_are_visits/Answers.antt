use Rattle.mc_guests.proofs.TellingLemmas.{round_visits, visits_go_on}
use Rattle.mc_guests.proofs.laws.rounds_are_visits.Goals as goal

pub returns-clause-round : goal.returns-clause-round
returns-clause-round g c = λ now at olds news before after old new goes this that.
    round_visits g.S.Steps now at olds news before after old new goes this that

pub returns-clause-rounds : goal.returns-clause-rounds
returns-clause-rounds g c = visits_go_on g.S.Steps
