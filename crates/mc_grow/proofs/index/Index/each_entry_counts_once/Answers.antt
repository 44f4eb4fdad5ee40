use Rattle.mc_grow.proofs.Words.{◌≡◌, subst, len, many_entries, IndexState, count, holds}
use Rattle.mc_grow.proofs.index.Index.each_entry_counts_once.Goals as goal

pub returns : goal.returns
returns g c =
    subst (λ (s : IndexState g.row.T.Denot). len (holds g.T.Keyed.hash_of g.T.Keyed.key_of s) ≡ count s) c.self.view_is
    (many_entries g.T.Keyed.hash_of g.T.Keyed.key_of _ c.self.invariant.apart)
