use Rattle.std.proofs.Common.{◌∙◌}
use Rattle.mc_bytes.proofs.LentLemmas.{part_within}
use Rattle.mc_bytes.proofs.lent.Lent.part.Goals as goal

pub returns-in-Ok : goal.returns-in-Ok
returns-in-Ok c =
    c.of.ensures ∙ rw c.in-Ok.ensures (part_within _ _ _ _ _ _ c.self.view_is c.requires.order c.requires.within c.self.invariant.0 c.self.invariant.1)
