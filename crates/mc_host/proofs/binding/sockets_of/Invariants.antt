use Rattle.std.proofs.Common.{◌≡◌, ◌+◌, length}
use Rattle.mc_host.proofs.binding.sockets_of.Given as goal

abbrev pub invariant-loop-listener : goal.invariant-loop-listener
invariant-loop-listener l = length l.sockets.items ≡ l.listener-index + 1
