use Rattle.std.proofs.Common.{refl}
use Rattle.mc_bench.proofs.asked.asked_run.Goals as goal

pub returns-in_default : goal.returns-in_default
returns-in_default c = λ _. refl
