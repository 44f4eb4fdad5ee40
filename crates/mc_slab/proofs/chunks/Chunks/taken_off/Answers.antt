use Rattle.mc_slab.proofs.ChunkLemmas.{page_is}
use Rattle.mc_slab.proofs.chunks.Chunks.taken_off.Goals as goal

pub of_sheets-requires : goal.of_sheets-requires
of_sheets-requires c = page_is _ _ _ c.taken_off-one.ensures.one.0 c.taken_off-one.ensures.one.1 c.taken_off-one.ensures.heads.0
