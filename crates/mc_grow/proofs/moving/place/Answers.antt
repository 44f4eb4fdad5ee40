use Rattle.mc_grow.proofs.Words.{ℕ, ◌∷◌, ◌++◌, [], map, Some, inr, subst, sym, ap, ◌∙◌, IsAbsent, home_in, absent_of, IsCrowded}
use Rattle.mc_grow.proofs.MoveLemmas.{in_first, new_to_each, strayed}
use Rattle.mc_grow.proofs.moving.place.Goals as goal

pub add-requires : goal.add-requires
add-requires g c = absent_of g.T.Keyed.hash_of g.T.Keyed.key_of _ _ _ (new_to_each g.T.Keyed.hash_of g.T.Keyed.key_of c.args.table.now.items (map Some c.args.strays.now.items) _ c.requires.new).0

pub returns-in-Ok-clause-content : goal.returns-in-Ok-clause-content
returns-in-Ok-clause-content g c =
    in_first g.T.Keyed.hash_of g.T.Keyed.key_of c.args.table.now.items (map Some c.args.strays.now.items) c.add.new.table.items c.args.entry c.requires.apart c.requires.new
    (record { come = c.in-Ok.ensures.put; apart = c.entries_are_apart.ensures })

pub push_reserved-requires-clause-new : goal.push_reserved-requires-clause-new
push_reserved-requires-clause-new g c =
    subst (λ (x : g.row.T.Denot). IsAbsent g.T.Keyed.hash_of g.T.Keyed.key_of (map Some c.args.strays.now.items) (g.T.Keyed.hash_of x) (g.T.Keyed.key_of x)) (sym c.in-Err.ensures.full.0)
    (absent_of g.T.Keyed.hash_of g.T.Keyed.key_of _ _ _ (new_to_each g.T.Keyed.hash_of g.T.Keyed.key_of c.args.table.now.items (map Some c.args.strays.now.items) _ c.requires.new).1)

pub returns-clause-added : goal.returns-clause-added
returns-clause-added g c =
    inr (record {
      none_near = c.in-Err.ensures.near;
      same = c.in-Err.ensures.full.1;
      full = subst (λ (k : ℕ). IsCrowded g.T.Keyed.hash_of k c.add.new.table.items (home_in k (g.T.Keyed.hash_of c.args.entry))) c.add.ensures.size.0 c.in-Err.ensures.full.2;
      strays = c.push_reserved.ensures.items ∙ ap (λ (e : g.row.T.Denot). c.args.strays.now.items ++ (e ∷ [])) c.in-Err.ensures.full.0;
    })

pub returns-clause-content : goal.returns-clause-content
returns-clause-content g c =
    strayed g.T.Keyed.hash_of g.T.Keyed.key_of c.args.table.now.items c.add.new.table.items c.args.strays.now.items c.push_reserved.new.self.items c.args.entry c.requires.apart c.requires.new
    c.entries_are_apart-2.ensures c.in-Err.ensures.full.1 (c.push_reserved.ensures.items ∙ ap (λ (e : g.row.T.Denot). c.args.strays.now.items ++ (e ∷ [])) c.in-Err.ensures.full.0)
