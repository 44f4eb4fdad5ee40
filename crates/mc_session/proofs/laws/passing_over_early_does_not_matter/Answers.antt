use Rattle.mc_session.proofs.StreamLemmas.{settled_once, units_settled}
use Rattle.mc_session.proofs.laws.passing_over_early_does_not_matter.Goals as goal

pub returns-clause-read : goal.returns-clause-read
returns-clause-read c = λ unread. settled_once unread.passed unread.bytes

pub returns-clause-units : goal.returns-clause-units
returns-clause-units c = units_settled
