use Rattle.std.proofs.Common.{refl}
use Rattle.mc_host.proofs.end.End.of_words.Goals as goal

pub returns-else-eq-clause-text : goal.returns-else-eq-clause-text
returns-else-eq-clause-text c = λ _. refl
