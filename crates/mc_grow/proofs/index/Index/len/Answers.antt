use Rattle.mc_grow.proofs.Words.{◌≡◌, ◌+◌, ◌∙◌, subst, arith, len, many_entries, IndexState, count, holds, drained_items}
use Rattle.mc_grow.proofs.CellLemmas.{count_parts}
use Rattle.mc_grow.proofs.index.Index.len.Goals as goal

pub returns-clause-count : goal.returns-clause-count
returns-clause-count g c =
    let i = c.self.inside in
    subst (λ (s : IndexState g.row.T.Denot). c.drained_len.result + c.len.result + c.len-2.result ≡ count s) c.self.view_is
    (omega (arith, c.drained_len.ensures.value, c.len.ensures.value, c.len-2.ensures.value, count_parts (drained_items i.draining) i.table.items i.strays.items))

pub returns-clause-held : goal.returns-clause-held
returns-clause-held g c =
    let i = c.self.inside in
    subst (λ (s : IndexState g.row.T.Denot). len (holds g.T.Keyed.hash_of g.T.Keyed.key_of s) ≡ c.drained_len.result + c.len.result + c.len-2.result) c.self.view_is
    (many_entries g.T.Keyed.hash_of g.T.Keyed.key_of _ c.self.invariant.apart
    ∙ (omega (arith, c.drained_len.ensures.value, c.len.ensures.value, c.len-2.ensures.value, count_parts (drained_items i.draining) i.table.items i.strays.items)))
