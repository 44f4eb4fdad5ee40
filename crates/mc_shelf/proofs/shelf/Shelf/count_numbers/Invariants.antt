use Rattle.mc_shelf.proofs.Common.{count_from}
use Rattle.mc_shelf.proofs.NumberLemmas.{Counting}
use Rattle.mc_shelf.proofs.shelf.Shelf.count_numbers.Given as goal

abbrev pub invariant-loop-number : goal.invariant-loop-number
invariant-loop-number l = Counting l.self-inside.index l.at l.fn.counts l.counts

abbrev pub decreases-loop-number : goal.decreases-loop-number
decreases-loop-number l = count_from l.self-inside.index l.at
