use Rattle.std.proofs.Common.{◌≡◌}
use Rattle.mc_shared_tests.proofs.tests.note_tests.right_of.Given as goal

abbrev pub invariant-loop-round : goal.invariant-loop-round
invariant-loop-round g l = ((l.mine.0.table ≡ l.fn.shared.table) × (l.mine.1.table ≡ l.fn.shared.table))
    × ((l.theirs.0.table ≡ l.fn.shared.table) × (l.theirs.1.table ≡ l.fn.shared.table))
