use Rattle.mc_guests.proofs.FairLemmas.{retries_are_fair, none_is_left, others_stay}
use Rattle.mc_guests.proofs.laws.retries_are_fair.Goals as goal

pub returns-clause-fair : goal.returns-clause-fair
returns-clause-fair g c = retries_are_fair g.S.Steps

pub returns-clause-all : goal.returns-clause-all
returns-clause-all g c = none_is_left g.S.Steps

pub returns-clause-others : goal.returns-clause-others
returns-clause-others g c = others_stay g.S.Steps
