use Rattle.mc_laws.proofs.NoteLawLemmas.{heeded_knows, heeded_order, one_note_mix}
use Rattle.mc_laws.proofs.laws.who_heeds_a_note_comes_after.Goals as goal

pub returns : goal.returns
returns c = record { knows = heeded_knows; order = heeded_order; two = one_note_mix }
