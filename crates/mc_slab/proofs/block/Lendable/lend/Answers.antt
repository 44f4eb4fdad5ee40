use Rattle.std.proofs.Common.{sym, ap, subst, ◌∙◌}
use Rattle.mc_slab.specs.Blocks.{bytes_in, IsBlock}
use Rattle.mc_slab.proofs.BlockLemmas.{lent-within}
use Rattle.mc_slab.proofs.block.Lendable.lend.Goals as goal

pub returns-in-Ok : goal.returns-in-Ok
returns-in-Ok c =
    let block = subst IsBlock c.in-Shared.is c.self.invariant in
    c.of.ensures
    ∙ rw c.in-Ok.ensures (lent-within _ c.in-Shared.size _ _ _ _ block.1.1 (sym (ap bytes_in c.in-Shared.is) ∙ c.self.view_is) c.requires.order c.requires.within)
