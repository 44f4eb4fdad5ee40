use Rattle.std.proofs.Common.{refl}
use Rattle.mc_bench.proofs.worlds.alone.Goals as goal

pub returns : goal.returns
returns c = refl
