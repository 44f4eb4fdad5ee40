use Rattle.mc_shelf.proofs.Common.{◌+◌, ◌≡◌, ◌≤◌, count_in, vec_capacity, vec_len, ℕ}
use Rattle.mc_shelf.proofs.aside.join.Given as goal

abbrev pub invariant-loop-shelf : goal.invariant-loop-shelf
invariant-loop-shelf l = record {
  room : vec_len l.joined + vec_len l.others ≤ vec_capacity l.joined;
  count : (class : ℕ) → count_in l.joined.items class + count_in l.others.items class ≡ count_in l.fn.shelves.items class + count_in l.fn.others.items class;
}

abbrev pub decreases-loop-shelf : goal.decreases-loop-shelf
decreases-loop-shelf l = vec_len l.others
