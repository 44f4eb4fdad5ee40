use Rattle.mc_protocol.proofs.LawLemmas.{one_key}
use Rattle.mc_protocol.proofs.laws.one_key_decides.Goals as goal

pub returns : goal.returns
returns c = one_key
