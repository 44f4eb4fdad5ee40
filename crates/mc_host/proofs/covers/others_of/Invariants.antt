use Rattle.std.proofs.Common.{◌≡◌, take}
use Rattle.mc_host.specs.Covers.{all_of, bound_among}
use Rattle.mc_host.proofs.covers.others_of.Given as goal

abbrev pub invariant-loop-endpoint : goal.invariant-loop-endpoint
invariant-loop-endpoint l =
    l.others.items ≡ bound_among l.is_dual (all_of l.endpoints) (take l.endpoint-index l.endpoints.others.items)
