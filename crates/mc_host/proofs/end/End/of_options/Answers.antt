use Rattle.std.proofs.Common.{refl}
use Rattle.mc_host.proofs.end.End.of_options.Goals as goal

pub returns-then-use_stderr-clause-mistake : goal.returns-then-use_stderr-clause-mistake
returns-then-use_stderr-clause-mistake c = λ _ _ _. refl
