use Rattle.std.proofs.Common.{arith}
use Rattle.mc_options.proofs.AskedLemmas.{clamped}
use Rattle.mc_options.proofs.options.asked_or_usual.Goals as goal

pub returns-in-Some : goal.returns-in-Some
returns-in-Some c = clamped c.args.asked c.args.usual c.args.most c.in-Some.number c.clamp.result c.in-Some.is c.clamp.ensures (omega arith)
