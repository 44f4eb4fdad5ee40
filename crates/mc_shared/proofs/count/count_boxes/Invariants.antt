use Rattle.mc_shared.proofs.CountLemmas.{CountsFirst}
use Rattle.mc_shared.proofs.count.count_boxes.Given as goal

abbrev pub invariant-loop-shelf : goal.invariant-loop-shelf
invariant-loop-shelf l = CountsFirst l.fn.shelves l.shelf-index l.counts
