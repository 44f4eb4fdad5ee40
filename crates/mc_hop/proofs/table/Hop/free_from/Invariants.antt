use Rattle.mc_hop.specs.Tables.{NoneFree}
use Rattle.mc_hop.proofs.table.Hop.free_from.Given as goal

abbrev pub invariant-loop-at : goal.invariant-loop-at
invariant-loop-at g l = NoneFree l.fn.self.items l.home l.at
