use Rattle.std.proofs.Common.{◌≡◌, length}
use Rattle.mc_host.proofs.binding.bound_all.Given as goal

abbrev pub invariant-loop-endpoint : goal.invariant-loop-endpoint
invariant-loop-endpoint g l = length l.others.items ≡ l.endpoint-index
