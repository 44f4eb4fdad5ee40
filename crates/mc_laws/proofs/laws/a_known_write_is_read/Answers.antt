use Rattle.mc_laws.proofs.ReadLawLemmas.{write_read}
use Rattle.mc_laws.proofs.laws.a_known_write_is_read.Goals as goal

pub returns : goal.returns
returns c = write_read c.other_keys_stay.ensures
