use Rattle.mc_grow.proofs.Words.{ℕ, ◌+◌, ◌-◌, ◌<◌, ◌≤◌, ◌^◌, ◌∷◌, length, IsBefore, key_by, keys_in}
use Rattle.mc_grow.proofs.strays.search.Given as goal

abbrev pub invariant-loop-low : goal.invariant-loop-low
invariant-loop-low g l = record {
  range : l.low ≤ l.high;
  inside : l.high ≤ length l.fn.order.items;
  before : (p : ℕ) → p < l.low → IsBefore (key_by (keys_in g.T.Keyed.hash_of g.T.Keyed.key_of l.fn.items.items) l.fn.order.items p) (l.fn.hash ∷ l.fn.key);
  behind : (p : ℕ) → l.high ≤ p → p < length l.fn.order.items → IsBefore (l.fn.hash ∷ l.fn.key) (key_by (keys_in g.T.Keyed.hash_of g.T.Keyed.key_of l.fn.items.items) l.fn.order.items p);
  reads : (digits : ℕ) → length l.fn.items.items < 2 ^ digits → (left : ℕ) × (l.high - l.low < 2 ^ left) × (g.C.ReadCounter.count l.reads + left ≤ g.C.ReadCounter.count l.fn.reads + digits);
}

abbrev pub decreases-loop-low : goal.decreases-loop-low
decreases-loop-low g l = l.high - l.low
