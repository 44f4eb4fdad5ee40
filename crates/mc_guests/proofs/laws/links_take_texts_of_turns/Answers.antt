use Rattle.mc_guests.proofs.TellingLemmas.{visit_tells, visits_tell, visits_front, visits_all}
use Rattle.mc_guests.proofs.laws.links_take_texts_of_turns.Goals as goal

pub returns-clause-visit : goal.returns-clause-visit
returns-clause-visit g c = visit_tells g.S.Steps

pub returns-clause-visits : goal.returns-clause-visits
returns-clause-visits g c = visits_tell g.S.Steps

pub returns-clause-front : goal.returns-clause-front
returns-clause-front g c = visits_front g.S.Steps

pub returns-clause-all : goal.returns-clause-all
returns-clause-all g c = visits_all g.S.Steps
