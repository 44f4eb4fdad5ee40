use Rattle.mc_telemetry.proofs.LabelLemmas.{steps_shown}
use Rattle.mc_telemetry.proofs.laws.steps_are_shown_as_they_came_out.Goals as goal

pub returns : goal.returns
returns c = steps_shown
