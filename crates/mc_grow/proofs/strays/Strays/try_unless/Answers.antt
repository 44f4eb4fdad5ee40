use Rattle.mc_grow.proofs.Words.{rules, ◌≡◌, Option, Some, not, is_some, sym, subst, IsCrowded, IsTried, beside}
use Rattle.std.specs.Prelude.{IfSome}
use Rattle.mc_grow.proofs.StrayLemmas.{stays_crowded}
use Rattle.mc_grow.proofs.strays.Strays.try_unless.Goals as goal

pub returns-then-eq-clause-tried : goal.returns-then-eq-clause-tried
returns-then-eq-clause-tried g c =
    let side = beside c.args.table.now c.args.self.now.items in
    let e : c.args.crowded ≡ Some c.home_of-home.result = search rules in
    subst (λ (o : Option _). IsTried g.T.Keyed.hash_of g.T.Keyed.key_of c.args.table.now.k c.args.at (not (is_some o)) side side) (sym e)
    (stays_crowded g.T.Keyed.hash_of g.T.Keyed.key_of c.args.table.now.k c.args.at c.home_of-home.result side c.requires.inside c.home_of-home.ensures
    (subst (λ (o : Option _). IfSome o (IsCrowded g.T.Keyed.hash_of c.args.table.now.k c.args.table.now.items)) e c.requires.crowded))
