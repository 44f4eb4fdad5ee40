use Rattle.std.proofs.Common.{refl}
use Rattle.mc_telemetry.proofs.page.all_families.Goals as goal

pub returns : goal.returns
returns c = refl
