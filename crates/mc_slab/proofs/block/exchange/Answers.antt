use Rattle.std.proofs.Common.{ap, subst}
use Rattle.mc_slab.specs.Blocks.{bytes_in, IsBlock}
use Rattle.mc_slab.proofs.BlockLemmas.{begins-within}
use Rattle.mc_slab.proofs.block.exchange.Goals as goal

pub returns-else-not-fits-clause-taken : goal.returns-else-not-fits-clause-taken
returns-else-not-fits-clause-taken c = λ _.
    let block = subst IsBlock c.in-Shared.is c.requires.block in
    rw c.replace.ensures.after
    (begins-within c.in-Shared.from c.in-Shared.size c.in-Some.place _ (bytes_in c.args.memory.now) _ _ block.1.1 (ap bytes_in c.in-Shared.is) c.requires.room c.in-Some.ensures.part)
