use Rattle.mc_session.specs.Answers.{at_start}
use Rattle.mc_session.proofs.session.SessionOf.close.Goals as goal

pub invariant_of-self : goal.invariant_of-self
invariant_of-self g c = at_start
