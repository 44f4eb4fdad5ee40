use Rattle.std.proofs.Common.{◌≤◌, arith}
use Rattle.mc_slab.proofs.ChunkLemmas.{several_are}
use Rattle.mc_slab.proofs.class_pages.take_linked.Goals as goal

pub take_pages-requires-clause-class : goal.take_pages-requires-clause-class
take_pages-requires-clause-class c = several_are _ c.requires.need (let some = c.requires.need.some in omega arith)
