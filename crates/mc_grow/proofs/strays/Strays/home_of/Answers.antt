use Rattle.mc_grow.proofs.Words.{ap, arith, get_or, length, ◌<◌, subst, sym, ◌≡◌, ◌∙◌, home_in, StraysState}
use Rattle.mc_grow.proofs.OrderLemmas.{many_hashes, own_hash}
use Rattle.mc_grow.proofs.strays.Strays.home_of.Goals as goal

pub index-requires : goal.index-requires
index-requires g c =
    omega (arith, c.requires, ap (λ (s : StraysState g.row.T.Denot). length s.items) c.self.view_is, c.self.inside.hashes.ok.0, many_hashes g.T.Keyed.hash_of g.T.Keyed.key_of c.self.invariant)

pub returns : goal.returns
returns g c entry there =
    let inside : c.args.at < length c.self.inside.items.items = omega (arith, c.requires, ap (λ (s : StraysState g.row.T.Denot). length s.items) c.self.view_is) in
    let lent : entry ≡ get_or c.self.inside.items.items c.args.at entry = subst (λ (s : StraysState g.row.T.Denot). entry ≡ get_or s.items c.args.at entry) (sym c.self.view_is) there in
    c.home_of.ensures.value ∙ ap (home_in c.args.table.now.k) (own_hash g.T.Keyed.hash_of g.T.Keyed.key_of c.self.invariant entry inside lent c.index.ensures)
