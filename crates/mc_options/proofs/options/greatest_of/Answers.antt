use Rattle.mc_options.proofs.AskedLemmas.{kept_in_pages}
use Rattle.mc_options.proofs.options.greatest_of.Goals as goal

pub returns-in-Some : goal.returns-in-Some
returns-in-Some c = kept_in_pages c.args.asked c.in-Some.bytes c.clamp.result c.in-Some.is c.clamp.ensures
