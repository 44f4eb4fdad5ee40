use Rattle.mc_session.proofs.StreamLemmas.{run_takes_first, run_takes_all}
use Rattle.mc_session.proofs.laws.a_run_takes_the_turns_of_its_stream.Goals as goal

pub returns-clause-first : goal.returns-clause-first
returns-clause-first g c = λ clock greatest read units taken last before after are run.
    run_takes_first g.S.Steps (g.C.Clock.may_give clock) c.no_spelling_begins_another.ensures greatest read units taken last before after are run

pub returns-clause-all : goal.returns-clause-all
returns-clause-all g c = λ clock greatest read units taken last before after are run.
    run_takes_all g.S.Steps (g.C.Clock.may_give clock) c.no_spelling_begins_another.ensures greatest read units taken last before after are run
