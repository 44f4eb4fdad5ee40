use Rattle.std.proofs.Common.{◌∙◌}
use Rattle.mc_server.proofs.tell_end.Goals as goal

pub returns : goal.returns
returns c = c.from.ensures ∙ c.ending-status.ensures.status
