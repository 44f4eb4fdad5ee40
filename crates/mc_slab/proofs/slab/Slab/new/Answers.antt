use Rattle.mc_slab.proofs.SlabLemmas.{AreStocks-empty, IsSlab-state_of}
use Rattle.mc_slab.proofs.slab.Slab.new.Goals as goal

pub invariant_of-result : goal.invariant_of-result
invariant_of-result c = rw c.in_ok-empty_stocks.ensures (AreStocks-empty _ c.requires.1)

pub returns-clause-is_slab : goal.returns-clause-is_slab
returns-clause-is_slab c = IsSlab-state_of _ _ (invariant_of-result c)
