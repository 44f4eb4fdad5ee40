use Rattle.mc_session.specs.Answers.{at_start}
use Rattle.mc_session.proofs.session.SessionOf.with_spares.Goals as goal

pub invariant_of-result : goal.invariant_of-result
invariant_of-result g c = at_start
