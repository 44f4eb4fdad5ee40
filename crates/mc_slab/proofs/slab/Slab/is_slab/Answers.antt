use Rattle.mc_slab.proofs.SlabLemmas.{IsSlab-state_of}
use Rattle.mc_slab.proofs.slab.Slab.is_slab.Goals as goal

pub returns : goal.returns
returns c = rw (← c.self.view_is) (IsSlab-state_of _ _ c.self.invariant)
