use Rattle.mc_shelf.proofs.Common.{◌≡◌, entries_of, EntryState, IndexState, items_of, len, subst, sym}
use Rattle.mc_shelf.proofs.LenLemmas.{len_items}
use Rattle.mc_shelf.proofs.index.EntryIndex.len.Goals as goal

pub returns-clause-count : goal.returns-clause-count
returns-clause-count c = subst (λ (i : IndexState EntryState). c.len.result ≡ len (items_of i)) c.self.view_is
    (sym (len_items c.len.result (entries_of c.self.inside.entries) c.self.invariant.0 c.len.ensures.held))
