use Rattle.mc_shelf.proofs.Common.{◌+◌, ◌≡◌, count_among, IsClass, out_of, vec_len, ℕ}
use Rattle.mc_shelf.proofs.desk.Desk.take_back.Given as goal

abbrev pub invariant-loop-one : goal.invariant-loop-one
invariant-loop-one l = record {
  out : (class : ℕ) → IsClass class → out_of l.self.slab class + count_among l.fn.chunks.items class ≡ out_of l.fn.self.slab class + count_among l.chunks.items class;
  pages : l.self.slab.pages ≡ l.fn.self.slab.pages;
  limit : l.self.slab.limit ≡ l.fn.self.slab.limit;
  next_unique : l.self.next_unique ≡ l.fn.self.next_unique;
}

abbrev pub decreases-loop-one : goal.decreases-loop-one
decreases-loop-one l = vec_len l.chunks
