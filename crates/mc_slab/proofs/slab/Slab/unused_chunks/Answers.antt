use Rattle.std.proofs.Common.{◌≡◌, ℕ, ◌+◌, ◌-◌, sym, ap, subst, ◌∙◌, arith}
use Rattle.mc_slab.specs.PagesByClass.{StockState, all_chunks}
use Rattle.mc_slab.specs.Slabs.{AreStocks, SlabState, chunks_of, out_of, state_of, unused}
use Rattle.mc_slab.proofs.SlabLemmas.{IsSlab-state_of, StockAt, chunks_at, out_at, stock_at}
use Rattle.mc_slab.proofs.slab.Slab.unused_chunks.Goals as goal

-- what the class's stock counts are the slab's, and add up
counted : (left : ℕ) (stocks : _) (class index count : ℕ) (stock : StockState) → StockAt left stocks class index stock → count ≡ all_chunks stock - stock.out
    → count ≡ unused (state_of left stocks) class
counted left stocks class index count stock at is = rw (chunks_at left stocks class index stock at, out_at left stocks class index stock at) is

added : (left : ℕ) (stocks : _) (class index count : ℕ) (stock : StockState) → StockAt left stocks class index stock → stock.out + count ≡ all_chunks stock
    → out_of (state_of left stocks) class + count ≡ chunks_of (state_of left stocks) class
added left stocks class index count stock at is = rw (chunks_at left stocks class index stock at, out_at left stocks class index stock at) is

pub returns-clause-value : goal.returns-clause-value
returns-clause-value c =
    let at = stock_at _ _ c.args.class _ _ c.self.invariant c.index.ensures.is_class c.index.ensures.value c.index-2.ensures in
    subst (λ (s : SlabState). c.unused_chunks.result ≡ unused s c.args.class) c.self.view_is (counted _ _ _ _ _ _ at c.unused_chunks.ensures.value)

pub returns-clause-account : goal.returns-clause-account
returns-clause-account c =
    let at = stock_at _ _ c.args.class _ _ c.self.invariant c.index.ensures.is_class c.index.ensures.value c.index-2.ensures in
    subst (λ (s : SlabState). out_of s c.args.class + c.unused_chunks.result ≡ chunks_of s c.args.class) c.self.view_is (added _ _ _ _ _ _ at c.unused_chunks.ensures.all)

pub returns-clause-is_slab : goal.returns-clause-is_slab
returns-clause-is_slab c = rw (← c.self.view_is) (IsSlab-state_of _ _ c.self.invariant)
