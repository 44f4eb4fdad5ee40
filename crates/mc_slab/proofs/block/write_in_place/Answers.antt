use Rattle.std.proofs.Common.{◌+◌, ap, subst, ◌∙◌}
use Rattle.mc_bytes.specs.declared.large.Large.{Large}
use Rattle.mc_slab.specs.Chunks.{with_part}
use Rattle.mc_slab.specs.Blocks.{bytes_in, IsBlock}
use Rattle.mc_slab.proofs.BlockLemmas.{written-within}
use Rattle.mc_slab.proofs.block.write_in_place.Goals as goal

pub returns-in-Some-clause-value : goal.returns-in-Some-clause-value
returns-in-Some-clause-value c = λ _.
    let block = subst IsBlock c.in-Shared.is c.requires.block in
    let written = c.write_part-in-Some.ensures.value ∙ ap (λ (l : Large). with_part l.bytes.items (c.in-Shared.from + c.args.at) c.args.part.now) c.in-Some.ensures.value in
    written-within c.in-Shared.from c.in-Shared.size c.args.at c.args.part.now _ (bytes_in c.args.memory.now) _ block.1.1 (ap bytes_in c.in-Shared.is) c.requires.room written
