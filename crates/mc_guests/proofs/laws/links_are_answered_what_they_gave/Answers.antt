use Rattle.mc_guests.proofs.AnswerLemmas.{visits_first, visits_all, visits_given, visits_taken}
use Rattle.mc_guests.proofs.laws.links_are_answered_what_they_gave.Goals as goal

pub returns-clause-first : goal.returns-clause-first
returns-clause-first g c = visits_first g.S.Steps c.no_spelling_begins_another.ensures

pub returns-clause-all : goal.returns-clause-all
returns-clause-all g c = visits_all g.S.Steps c.no_spelling_begins_another.ensures

pub returns-clause-given : goal.returns-clause-given
returns-clause-given g c = visits_given g.S.Steps

pub returns-clause-taken : goal.returns-clause-taken
returns-clause-taken g c = visits_taken g.S.Steps
