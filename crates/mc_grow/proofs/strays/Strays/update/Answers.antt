use Rattle.mc_grow.proofs.Words.{◌≡◌, ℕ, List, Some, None, map, get_or, sym, subst, ◌∙◌, IsOrder, StraysState}
use Rattle.mc_grow.proofs.OrderLemmas.{hashes_kept}
use Rattle.mc_grow.proofs.strays.Strays.update.Goals as goal

pub update_stray-requires-clause-keeps : goal.update_stray-requires-clause-keeps
update_stray-requires-clause-keeps g c entry there = c.requires.keeps entry (subst (λ (s : StraysState g.row.T.Denot). get_or (map Some s.items) c.args.at None ≡ Some entry) c.self.view_is there)

pub invariant_of-self : goal.invariant_of-self
invariant_of-self g c = record {
  hashes = c.self.invariant.hashes ∙ sym (hashes_kept g.T.Keyed.hash_of g.T.Keyed.key_of c.self.inside.items.items _ c.update_stray.ensures.keys);
  sorted = subst (λ (keys : List (List ℕ)). IsOrder keys c.self.inside.order.items) (sym c.update_stray.ensures.keys) c.self.invariant.sorted;
}
