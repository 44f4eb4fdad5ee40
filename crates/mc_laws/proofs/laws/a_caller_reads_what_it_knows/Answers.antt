use Rattle.mc_laws.proofs.ReadLawLemmas.{read_latest, given_is_left, deleted_is_gone}
use Rattle.mc_laws.proofs.laws.a_caller_reads_what_it_knows.Goals as goal

pub returns : goal.returns
returns c = let stay = c.other_keys_stay.ensures in record { latest = read_latest stay; given = given_is_left; deleted = deleted_is_gone }
