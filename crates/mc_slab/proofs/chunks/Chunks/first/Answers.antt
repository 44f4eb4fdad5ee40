use Rattle.std.proofs.Common.{◌≡◌, take, ap, subst, ◌∙◌}
use Rattle.mc_slab.specs.Chunks.{ChunksState, AreChunks}
use Rattle.mc_slab.specs.Classes.{size_of}
use Rattle.mc_slab.proofs.HeldLemmas.{first_lone}
use Rattle.mc_slab.proofs.chunks.Chunks.first.Goals as goal

pub returns-clause-value : goal.returns-clause-value
returns-clause-value c = c.first.ensures ∙ ap (λ (s : ChunksState). take (size_of s.class) s.bytes) c.self.view_is

pub returns-clause-lone : goal.returns-clause-lone
returns-clause-lone c = λ one. first_lone c.args.self.now c.first.result.now (subst AreChunks c.self.view_is c.self.invariant) (returns-clause-value c) one
