use Rattle.mc_protocol.proofs.LawLemmas.{other_keys}
use Rattle.mc_protocol.proofs.laws.other_keys_stay.Goals as goal

pub returns : goal.returns
returns c = other_keys
