use Rattle.mc_host.proofs.CoverLemmas.{bound-each}
use Rattle.mc_host.proofs.covers.bound_of.Goals as goal

pub returns-clause-each : goal.returns-clause-each
returns-clause-each c = bound-each c.led_by.result c.args.endpoints.now c.args.is_dual c.led_by.ensures
