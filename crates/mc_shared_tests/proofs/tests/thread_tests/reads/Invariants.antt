use Rattle.std.proofs.Common.{◌≡◌}
use Rattle.mc_shared_tests.proofs.tests.thread_tests.reads.Given as goal

abbrev pub invariant-loop-turn : goal.invariant-loop-turn
invariant-loop-turn g l = l.caller.table ≡ l.fn.shared.table
