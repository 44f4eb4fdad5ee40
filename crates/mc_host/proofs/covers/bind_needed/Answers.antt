use Rattle.mc_host.proofs.CoverLemmas.{unbound-if}
use Rattle.mc_host.proofs.covers.bind_needed.Goals as goal

pub returns-in-Ok-clause-ends : goal.returns-in-Ok-clause-ends
returns-in-Ok-clause-ends g c =
    unbound-if c.in-Ok.bound c.args.endpoints.now c.bound_all.result c.in-Ok.ensures.each c.bound_all.ensures.ends
