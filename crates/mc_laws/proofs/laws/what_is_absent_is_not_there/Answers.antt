use Rattle.mc_laws.proofs.AbsentLawLemmas.{absent_gone, never_absent, known_taken_away}
use Rattle.mc_laws.proofs.laws.what_is_absent_is_not_there.Goals as goal

pub returns : goal.returns
returns c = let stay = c.other_keys_stay.ensures in record { gone = absent_gone; there = never_absent; known = known_taken_away stay }
