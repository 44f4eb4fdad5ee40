use Rattle.std.proofs.Common.{ℕ, ◌-◌, ◌≤◌}
use Rattle.mc_parse.specs.Cursors.{IsWithin, PointsInto}
use Rattle.mc_parse.proofs.cursor.moved_to.Given as goal

abbrev pub invariant-loop-cursor : goal.invariant-loop-cursor
invariant-loop-cursor l =
    IsWithin l.cursor l.unread × (l.cursor.taken ≤ l.taken) × ((greatest : ℕ) → PointsInto greatest l.fn.cursor l.unread → PointsInto greatest l.cursor l.unread)

abbrev pub decreases-loop-cursor : goal.decreases-loop-cursor
decreases-loop-cursor l = l.taken - l.cursor.taken
