use Rattle.mc_laws.proofs.CountLawLemmas.{counts_add_up, whole_counts}
use Rattle.mc_laws.proofs.laws.no_count_is_lost.Goals as goal

pub returns : goal.returns
returns c = let stay = c.other_keys_stay.ensures in record { counted = counts_add_up stay; whole = whole_counts stay }
