use Rattle.mc_shelf.proofs.Common.{all_out, AreCollected}
use Rattle.mc_shelf.proofs.collector.collect_for.Given as goal

abbrev pub invariant-loop-need : goal.invariant-loop-need
invariant-loop-need l = AreCollected l.fn.slab l.slab l.fn.aside.shelves.items l.aside.shelves.items

abbrev pub decreases-loop-need : goal.decreases-loop-need
decreases-loop-need l = all_out l.slab
