use Rattle.mc_shelf.proofs.Common.{◌-◌, ◌≡◌, vec_len}
use Rattle.mc_shelf.proofs.aside.chunks_of.Given as goal

abbrev pub invariant-loop-shelf : goal.invariant-loop-shelf
invariant-loop-shelf l = l.aside.items ≡ l.fn.aside.items

abbrev pub decreases-loop-shelf : goal.decreases-loop-shelf
decreases-loop-shelf l = vec_len l.aside - l.shelf
