use Rattle.mc_shared.proofs.Words.{◌≡◌, ◌≤◌, ◌+◌, length, vec_len, vec_capacity, All, IsBare}
use Rattle.mc_shared.proofs.EmptyLemmas.{AreEmptiedTo}
use Rattle.mc_shared.proofs.flush.empty_boxes.Given as goal

abbrev pub invariant-loop-shelf : goal.invariant-loop-shelf
invariant-loop-shelf l = record {
  many : length l.fn.shelves ≤ l.shelf-index + vec_len l.bare;
  bare : All IsBare l.bare.items;
  room : length l.fn.shelves ≤ vec_capacity l.aside;
  so_far : vec_len l.aside ≡ l.shelf-index;
  to : AreEmptiedTo l.fn.shelves l.shelf-index l.shelves l.aside.items;
}
