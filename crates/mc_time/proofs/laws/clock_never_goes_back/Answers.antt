use Rattle.mc_time.proofs.LawLemmas.{never_fall}
use Rattle.mc_time.proofs.laws.clock_never_goes_back.Goals as goal

pub returns-clause-never_fall : goal.returns-clause-never_fall
returns-clause-never_fall c = never_fall
