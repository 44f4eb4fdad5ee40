use Rattle.mc_shelf.proofs.Common.{count_from}
use Rattle.mc_shelf.proofs.index.EntryIndex.of_class_from.Given as goal

abbrev pub decreases-loop-number : goal.decreases-loop-number
decreases-loop-number l = count_from l.self l.at
