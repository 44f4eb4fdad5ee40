use Rattle.mc_shared.proofs.Words.{◌≡◌, ◌++◌, map, ShelfState, shelf_slot, spaced}
use Rattle.mc_shared.proofs.store.slots_of.Given as goal

abbrev pub invariant-loop-shelf : goal.invariant-loop-shelf
invariant-loop-shelf l = l.slots.items ++ spaced (map {A = ShelfState} shelf_slot l.shelf-iterator.rest.items) ≡ spaced (map {A = ShelfState} shelf_slot l.fn.shelves.items)
