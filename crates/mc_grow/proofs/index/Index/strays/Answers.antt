use Rattle.mc_grow.proofs.Words.{◌+◌, ◌≤◌, subst, arith, IndexState, count, left, drained_items}
use Rattle.mc_grow.proofs.CellLemmas.{count_parts}
use Rattle.mc_grow.proofs.index.Index.strays.Goals as goal

pub returns-clause-within : goal.returns-clause-within
returns-clause-within g c =
    let i = c.self.inside in
    subst (λ (s : IndexState g.row.T.Denot). c.len.result + left s ≤ count s) c.self.view_is
    (omega (arith, c.len.ensures.value, count_parts (drained_items i.draining) i.table.items i.strays.items))
