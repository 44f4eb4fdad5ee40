use Rattle.std.proofs.Common.{◌≡◌, ◌*◌, ℕ, List, take, drop, sym, ap, subst, ◌∙◌, arith}
use Rattle.mc_slab.specs.Chunks.{ChunksState, AreChunks, need_in}
use Rattle.mc_slab.specs.Classes.{size_of}
use Rattle.mc_slab.proofs.ChunkLemmas.{part_first, part_is, several_are}
use Rattle.mc_slab.proofs.chunks.Chunks.part.Goals as goal

pub returns-then-at-eq0-clause-value : goal.returns-then-at-eq0-clause-value
returns-then-at-eq0-clause-value c =
    c.first.ensures
    ∙ ap (λ (s : ChunksState). take (size_of s.class) s.bytes) c.self.view_is
    ∙ part_first c.args.self.now c.args.at c.if-at-eq0.true

pub returns-clause-value : goal.returns-clause-value
returns-clause-value c =
    let are = subst AreChunks c.self.view_is c.self.invariant in
    let last = several_are (need_in c.args.self.now) are.is_need (omega (arith, c.if-at-eq0.false)) in
    c.part.ensures
    ∙ ap (λ (l : List ℕ). take 1048576 (drop (c.args.at * 1048576) l)) (c.sheet.ensures.1 ∙ ap (λ (s : ChunksState). s.bytes) c.self.view_is)
    ∙ part_is c.args.self.now c.args.at last
