use Rattle.mc_shelf.proofs.Common.{◌≡◌, drop, parts_of}
use Rattle.mc_shelf.proofs.PartsLemmas.{are_blank}
use Rattle.mc_shelf.proofs.entry.Entry.ends_blank.Given as goal

abbrev pub invariant-loop-at : goal.invariant-loop-at
invariant-loop-at l = are_blank (drop 1 (parts_of l.self.key l.self.item)) ≡ are_blank (drop l.at (parts_of l.self.key l.self.item))
