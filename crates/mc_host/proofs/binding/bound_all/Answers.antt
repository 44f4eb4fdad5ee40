use Rattle.std.proofs.Common.{rules, ◌<◌, length}
use Rattle.mc_host.proofs.EndLemmas.{unbound_at_another}
use Rattle.mc_host.proofs.binding.bound_all.Goals as goal

pub returns-in-Err-bound_at-clause-ends : goal.returns-in-Err-bound_at-clause-ends
returns-in-Err-bound_at-clause-ends g c =
    let within : c.loop-endpoint.endpoint-index < length c.deref-endpoint-items.result.now = search rules in
    unbound_at_another c.args.endpoints.now c.deref-endpoint-items.result.now c.loop-endpoint.endpoint-index _
    c.in-Err-bound_at.end c.deref-endpoint-items.ensures.value within c.in-Err-bound_at.ensures
