use Rattle.mc_world.proofs.ConnectionLemmas.{due_both}
use Rattle.mc_world.proofs.laws.a_turn_is_due_of_both.Goals as goal

pub returns : goal.returns
returns c = λ connection session stands is. due_both connection session stands is
