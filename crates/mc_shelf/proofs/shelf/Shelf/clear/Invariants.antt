use Rattle.mc_shelf.proofs.Common.{◌≡◌, ◌≤◌, count_from, counts_in, counts_of, DropsAlone, GivesFor, items_of}
use Rattle.mc_shelf.proofs.SweepLemmas.{Below, IsNone}
use Rattle.mc_shelf.proofs.shelf.Shelf.clear.Given as goal

abbrev pub invariant-loop-number : goal.invariant-loop-number
invariant-loop-number l = record {
  most : l.self-inside.greatest ≤ 8388608;
  greatest : l.self-inside.greatest ≡ l.fn.self.content.greatest;
  cut : l.self-inside.cut ≡ l.fn.self.content.cut;
  gives : GivesFor l.fn.self.content.items (items_of l.self-inside.index) l.fn.desk l.desk;
  table : DropsAlone (counts_of l.fn.self) (counts_in l.self-inside.index);
  below : Below l.self-inside.index l.at IsNone;
  reclaimed : l.self-inside.reclaimed ≡ l.fn.self.reclaimed;
}

abbrev pub decreases-loop-number : goal.decreases-loop-number
decreases-loop-number l = count_from l.self-inside.index l.at
