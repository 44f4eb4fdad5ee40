use Rattle.mc_session.specs.Answers.{at_start}
use Rattle.mc_session.proofs.session.SessionOf.go_on.Goals as goal

pub invariant_of-self-in-Read : goal.invariant_of-self-in-Read
invariant_of-self-in-Read g c = at_start
