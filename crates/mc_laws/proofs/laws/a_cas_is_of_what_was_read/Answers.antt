use Rattle.mc_laws.proofs.CasLawLemmas.{new_drawn, drawn_stay, cas_is_of_read}
use Rattle.mc_laws.proofs.laws.a_cas_is_of_what_was_read.Goals as goal

pub returns : goal.returns
returns c = let stay = c.other_keys_stay.ensures in record { new = new_drawn; stays = drawn_stay stay; unwritten = cas_is_of_read stay }
