use Rattle.std.proofs.Common.{◌≡◌, ◌≤◌, length, vec_capacity}
use Rattle.mc_item_tests.proofs.item_tests.pattern.Given as goal

abbrev pub invariant-loop-place : goal.invariant-loop-place
invariant-loop-place l = record {
  written : length l.bytes.items ≡ l.place;
  room : l.fn.count ≤ vec_capacity l.bytes;
}
