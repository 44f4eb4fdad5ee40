use Rattle.mc_slab.proofs.ChunkLemmas.{page_is}
use Rattle.mc_slab.proofs.chunks.Chunks.page.Goals as goal

pub of_sheets-requires : goal.of_sheets-requires
of_sheets-requires c = page_is _ _ _ c.in_ok-new.ensures.0 c.in_ok-new.ensures.1 c.in_ok-new.ensures.2
