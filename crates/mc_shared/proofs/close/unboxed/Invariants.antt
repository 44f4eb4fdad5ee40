use Rattle.mc_shared.proofs.Words.{◌≡◌, ◌≤◌, ◌+◌, ◌++◌, length, vec_capacity, vec_len}
use Rattle.mc_shared.proofs.close.unboxed.Given as goal

abbrev pub invariant-loop-shelf : goal.invariant-loop-shelf
invariant-loop-shelf l = (l.shelves.items ++ l.shelf-iterator.rest.items ≡ l.fn.boxes.items)
    × (vec_len l.shelves + length l.shelf-iterator.rest.items ≤ vec_capacity l.shelves)
