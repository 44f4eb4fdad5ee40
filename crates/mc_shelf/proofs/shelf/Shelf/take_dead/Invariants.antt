use Rattle.mc_shelf.proofs.Common.{◌+◌, ◌≡◌, ◌≤◌, count_among, count_from, count_of, items_of, len, vec_capacity, vec_len, ℕ}
use Rattle.mc_shelf.proofs.SweepLemmas.{IsSwept}
use Rattle.mc_shelf.proofs.shelf.Shelf.take_dead.Given as goal

abbrev pub invariant-loop-number : goal.invariant-loop-number
invariant-loop-number l = record {
  walk : IsSwept l.now l.fn.self l.self-inside.greatest l.self-inside.cut l.self-inside.index l.at l.soonest;
  counts : (class : ℕ) → count_among l.chunks.items class + count_of (items_of l.self-inside.index) class ≡ count_of l.fn.self.content.items class;
  room : vec_len l.chunks + len (items_of l.self-inside.index) ≤ vec_capacity l.chunks;
  reclaimed : l.self-inside.reclaimed ≡ l.fn.self.reclaimed;
}

abbrev pub decreases-loop-number : goal.decreases-loop-number
decreases-loop-number l = count_from l.self-inside.index l.at
