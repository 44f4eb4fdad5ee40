use Rattle.mc_laws.proofs.BackLawLemmas.{known_hits, hits_in_order, hits_round_a_write}
use Rattle.mc_laws.proofs.NumberLawLemmas.{numbers_order}
use Rattle.mc_laws.proofs.laws.no_read_goes_back.Goals as goal

pub returns : goal.returns
returns c =
    let stay = c.other_keys_stay.ensures in record { known = known_hits stay; history = hits_in_order stay; written = hits_round_a_write stay; numbers = numbers_order stay }
