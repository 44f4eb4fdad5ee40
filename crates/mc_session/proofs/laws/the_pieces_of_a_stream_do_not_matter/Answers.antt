use Rattle.mc_session.proofs.PieceLemmas.{steps_took}
use Rattle.mc_session.proofs.laws.the_pieces_of_a_stream_do_not_matter.Goals as goal

pub returns-clause-run : goal.returns-clause-run
returns-clause-run g c = λ clock greatest calls read written last before after exchange.
    (steps_took g.S.Steps (g.C.Clock.may_give clock) greatest before exchange.0 _ exchange.1).1

pub returns-clause-few : goal.returns-clause-few
returns-clause-few g c = λ clock greatest calls read written last before after exchange.
    (steps_took g.S.Steps (g.C.Clock.may_give clock) greatest before exchange.0 _ exchange.1).0
