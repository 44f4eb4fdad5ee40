use Rattle.mc_grow.proofs.Words.{◌∷◌, Bool, Some, map, sym, ap, subst, ◌∙◌, if◌then◌else◌, length, refl, arith, IsAbsent, StraysState}
use Rattle.std.specs.List.{insert}
use Rattle.mc_grow.proofs.OrderLemmas.{comes, found_there, hashes_more, many_hashes, many_keys}
use Rattle.mc_grow.proofs.strays.Strays.push_reserved.Goals as goal

pub unreachable-requires : goal.unreachable-requires
unreachable-requires g c =
    subst (λ (s : StraysState g.row.T.Denot). IsAbsent g.T.Keyed.hash_of g.T.Keyed.key_of (map Some s.items) (g.T.Keyed.hash_of c.args.entry)
    (g.T.Keyed.key_of c.args.entry)) (sym c.self.view_is) c.requires.new _
    (found_there g.T.Keyed.hash_of g.T.Keyed.key_of c.self.inside.items.items c.self.invariant.sorted
    (c.in-Ok.ensures.found.0, c.in-Ok.ensures.found.1 ∙ λ i. c.hash-hash.ensures i ∷ c.key.ensures i) refl).1

pub invariant_of-self : goal.invariant_of-self
invariant_of-self g c =
    let i = c.self.inside in
    let many = ap (λ (s : StraysState g.row.T.Denot). length s.items) c.self.view_is in
    let fits = ap (λ (s : StraysState g.row.T.Denot). s.room) c.self.view_is in
    let ok = c.insert.ensures.succeeds (omega (arith, c.requires.room, many, fits, i.order.ok.0, c.self.invariant.sorted.same_length, many_keys g.T.Keyed.hash_of g.T.Keyed.key_of i.items.items)) in
    record {
      hashes = hashes_more g.T.Keyed.hash_of g.T.Keyed.key_of c.self.invariant c.args.entry c.push_reserved.ensures.items c.hash-hash.ensures c.push_reserved-2.ensures.items;
      sorted = comes g.T.Keyed.hash_of g.T.Keyed.key_of i.items.items c.self.invariant.sorted c.args.entry c.in-Err.ensures.none c.hash-hash.ensures c.key.ensures
          c.push_reserved.ensures.items (omega (arith, c.len-number.ensures, i.items.ok.0))
          (c.insert.ensures.items ∙ ap (λ (b : Bool). if b then insert i.order.items c.in-Err.place c.len-number.result else i.order.items) ok);
    }

pub push_reserved-requires-2 : goal.push_reserved-requires-2
push_reserved-requires-2 g c =
    let many = ap (λ (s : StraysState g.row.T.Denot). length s.items) c.self.view_is in
    let fits = ap (λ (s : StraysState g.row.T.Denot). s.room) c.self.view_is in
    omega (arith, c.requires.room, many, fits, c.self.inside.hashes.ok.0, many_hashes g.T.Keyed.hash_of g.T.Keyed.key_of c.self.invariant)
