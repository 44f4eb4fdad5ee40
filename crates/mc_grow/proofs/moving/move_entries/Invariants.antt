use Rattle.mc_grow.proofs.Words.{◌≡◌, ◌+◌, ◌≤◌, length, filled, beside}
use Rattle.mc_grow.proofs.MoveLemmas.{MovedSoFar}
use Rattle.mc_grow.proofs.moving.move_entries.Given as goal

abbrev pub invariant-loop-moved : goal.invariant-loop-moved
invariant-loop-moved g l = record {
  moves : MovedSoFar g.T.Keyed.hash_of g.T.Keyed.key_of l.fn.table.k l.moved l.fn.draining.items l.draining.items (beside l.fn.table l.fn.strays.items) (beside l.table l.strays.items);
  same_k : l.table.k ≡ l.fn.table.k;
  room : length l.strays.items + filled l.draining.items ≤ length l.fn.strays.items + filled l.fn.draining.items;
  capacity : l.strays.room ≡ l.fn.strays.room;
}
