use Rattle.std.proofs.Common.{◌≡◌, map, take}
use Rattle.mc_options.specs.Asked.{endpoint_for}
use Rattle.mc_options.proofs.endpoints.Endpoints.new.Given as goal

abbrev pub invariant-loop-address : goal.invariant-loop-address
invariant-loop-address l = l.others.items ≡ map (endpoint_for l.fn.port) (take l.address-index l.more)
