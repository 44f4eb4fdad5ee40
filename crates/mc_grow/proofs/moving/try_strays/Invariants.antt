use Rattle.mc_grow.proofs.Words.{◌≡◌, ◌≤◌, length, beside, IsCrowded}
use Rattle.std.specs.Prelude.{IfSome}
use Rattle.mc_grow.proofs.StrayLemmas.{TriedSoFar}
use Rattle.mc_grow.proofs.moving.try_strays.Given as goal

abbrev pub invariant-loop-turn : goal.invariant-loop-turn
invariant-loop-turn g l = record {
  turns : TriedSoFar g.T.Keyed.hash_of g.T.Keyed.key_of l.fn.table.k l._turn l.kept (beside l.fn.table l.fn.strays.items) (beside l.table l.strays.items);
  same_k : l.table.k ≡ l.fn.table.k;
  crowded : IfSome l.crowded (IsCrowded g.T.Keyed.hash_of l.table.k l.table.items);
  room : length l.strays.items ≤ length l.fn.strays.items;
  capacity : l.strays.room ≡ l.fn.strays.room;
}
