use Rattle.mc_world.proofs.EventLemmas.{piece_cut}
use Rattle.mc_world.proofs.laws.a_piece_may_be_cut.Goals as goal

pub returns : goal.returns
returns c = λ session piece more front rest hash shelves old new. piece_cut hash shelves session piece more rest old new front
