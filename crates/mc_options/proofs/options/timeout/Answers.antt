use Rattle.mc_options.proofs.AskedLemmas.{bounded}
use Rattle.mc_options.proofs.options.timeout.Goals as goal

pub returns-in-Some : goal.returns-in-Some
returns-in-Some c = bounded c.args.asked c.args.longest c.in-Some.seconds c.min.result c.in-Some.is c.min.ensures
