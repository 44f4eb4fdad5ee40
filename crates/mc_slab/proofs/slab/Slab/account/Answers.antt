use Rattle.mc_slab.proofs.SlabLemmas.{IsSlab-state_of}
use Rattle.mc_slab.proofs.slab.Slab.account.Goals as goal

pub returns-clause-is_slab : goal.returns-clause-is_slab
returns-clause-is_slab c = rw (← c.self.view_is) (IsSlab-state_of _ _ c.self.invariant)
