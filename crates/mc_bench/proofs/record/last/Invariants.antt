use Rattle.std.proofs.Common.{◌≡◌}
use Rattle.mc_bench.proofs.record.last.Given as goal

abbrev pub invariant-loop-key : goal.invariant-loop-key
invariant-loop-key g l = (l.caller.table ≡ l.initial.caller.table) × (l.initial.caller.table ≡ l.fn.shared.table)
