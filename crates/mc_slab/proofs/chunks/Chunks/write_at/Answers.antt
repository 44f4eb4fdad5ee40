use Rattle.std.proofs.Common.{◌+◌, ◌≤◌, length, sym, subst}
use Rattle.mc_slab.specs.Chunks.{ChunksState, AreChunks}
use Rattle.mc_slab.specs.Helds.{chunks_in}
use Rattle.mc_slab.proofs.ChunkLemmas.{written_are}
use Rattle.mc_slab.proofs.chunks.Chunks.write_at.Goals as goal

are : (c : goal.After-write_at) → AreChunks (chunks_in c.write_at.new.held)
are c =
    let room = subst (λ (s : ChunksState). c.args.at + length c.args.part.now ≤ length s.bytes) (sym c.self.view_is) c.requires in
    written_are (chunks_in c.self.inside.held) (chunks_in c.write_at.new.held) c.args.at c.args.part.now c.self.invariant room c.write_at.ensures.cut c.write_at.ensures.lent

pub invariant_of-self : goal.invariant_of-self
invariant_of-self c = are c

pub returns-clause-are : goal.returns-clause-are
returns-clause-are c = are c
