use Rattle.std.proofs.Common.{◌∙◌}
use Rattle.mc_workers.proofs.tending.Tending.grow_after.Goals as goal

pub returns : goal.returns
returns g c = c.grow_after.ensures.same ∙ c.self.view_is
