use Rattle.mc_shelf.proofs.Common.{◌≡◌, count_from, GivesFor, items_of}
use Rattle.mc_shelf.proofs.SweepLemmas.{IsSwept}
use Rattle.mc_shelf.proofs.shelf.Shelf.purge.Given as goal

abbrev pub invariant-loop-number : goal.invariant-loop-number
invariant-loop-number l = record {
  walk : IsSwept l.now l.fn.self l.self-inside.greatest l.self-inside.cut l.self-inside.index l.at l.soonest;
  gives : GivesFor l.fn.self.content.items (items_of l.self-inside.index) l.fn.desk l.desk;
  reclaimed : l.self-inside.reclaimed ≡ l.fn.self.reclaimed;
}

abbrev pub decreases-loop-number : goal.decreases-loop-number
decreases-loop-number l = count_from l.self-inside.index l.at
