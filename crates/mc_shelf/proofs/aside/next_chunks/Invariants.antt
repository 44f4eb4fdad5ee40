use Rattle.mc_shelf.proofs.Common.{◌≡◌, count_in, vec_len, ℕ}
use Rattle.mc_shelf.proofs.aside.next_chunks.Given as goal

abbrev pub invariant-loop-shelf : goal.invariant-loop-shelf
invariant-loop-shelf l = (class : ℕ) → count_in l.aside.items class ≡ count_in l.fn.aside.items class

abbrev pub decreases-loop-shelf : goal.decreases-loop-shelf
decreases-loop-shelf l = vec_len l.aside
