use Rattle.mc_bytes.proofs.LentLemmas.{front_left_out}
use Rattle.mc_bytes.proofs.lent.Lent.drop_front.Goals as goal

pub returns : goal.returns
returns c = front_left_out _ _ _ _ _ c.self.view_is c.self.invariant.0 c.self.invariant.1 c.requires
