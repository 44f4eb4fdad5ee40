use Rattle.mc_shelf.proofs.Common.{entries_of, EntriesAreKeyed, hash_in, IsFoundIn, key_in, subst}
use Rattle.mc_shelf.proofs.IndexLemmas.{key_found}
use Rattle.mc_shelf.proofs.index.EntryIndex.find.Goals as goal

pub returns : goal.returns
returns c =
    key_found c.args.self.now (subst (λ s. EntriesAreKeyed (entries_of s)) c.self.view_is c.self.invariant.0) c.args.hash c.args.key.now c.requires c.find.result
    (subst (λ s. IsFoundIn hash_in key_in s c.args.hash c.args.key.now c.find.result) c.self.view_is c.find.ensures)
