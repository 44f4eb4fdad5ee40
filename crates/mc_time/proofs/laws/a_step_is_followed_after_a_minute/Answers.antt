use Rattle.mc_time.proofs.LawLemmas.{brief, stood}
use Rattle.mc_time.proofs.laws.a_step_is_followed_after_a_minute.Goals as goal

pub returns-clause-brief : goal.returns-clause-brief
returns-clause-brief c = brief

pub returns-clause-stood : goal.returns-clause-stood
returns-clause-stood c = stood
