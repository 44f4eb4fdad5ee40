use Rattle.mc_shelf.proofs.Common.{all_out, AreCollected}
use Rattle.mc_shelf.proofs.collector.make_room.Given as goal

abbrev pub invariant-loop-slab : goal.invariant-loop-slab
invariant-loop-slab l = AreCollected l.fn.slab l.slab l.fn.aside.shelves.items l.aside.shelves.items

abbrev pub decreases-loop-slab : goal.decreases-loop-slab
decreases-loop-slab l = all_out l.slab
