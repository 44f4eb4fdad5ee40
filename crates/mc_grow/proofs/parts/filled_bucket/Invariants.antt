use Rattle.mc_grow.proofs.Words.{◌≤◌, NoneFilled}
use Rattle.mc_grow.proofs.parts.filled_bucket.Given as goal

abbrev pub invariant-loop-at : goal.invariant-loop-at
invariant-loop-at g l = (l.from ≤ l.at) × NoneFilled l.table.items l.from l.at
