use Rattle.mc_laws.proofs.ReadLawLemmas.{hit_was_written}
use Rattle.mc_laws.proofs.laws.nothing_is_made_up.Goals as goal

pub returns : goal.returns
returns c = hit_was_written c.other_keys_stay.ensures
