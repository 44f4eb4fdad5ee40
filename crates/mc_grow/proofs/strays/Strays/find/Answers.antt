use Rattle.mc_grow.proofs.Words.{◌<◌, Some, map, length, subst, get_or_read, IsAbsent, IsAt, StraysState}
use Rattle.mc_grow.proofs.OrderLemmas.{absent_in_gap, found_there}
use Rattle.mc_grow.proofs.strays.Strays.find.Goals as goal

pub returns-in-Ok-clause-found : goal.returns-in-Ok-clause-found
returns-in-Ok-clause-found g c =
    subst (λ (s : StraysState g.row.T.Denot). (c.index.result.now < length s.items)
    × IsAt g.T.Keyed.hash_of g.T.Keyed.key_of (map Some s.items) c.args.hash c.args.key.now c.index.result.now) c.self.view_is
    (found_there g.T.Keyed.hash_of g.T.Keyed.key_of c.self.inside.items.items c.self.invariant.sorted c.in-Ok.ensures.found
    (get_or_read _ c.in-Ok.place _ c.in-Ok.ensures.found.0 c.index.ensures 0))

pub returns-in-Err-clause-none : goal.returns-in-Err-clause-none
returns-in-Err-clause-none g c _ =
    subst (λ (s : StraysState g.row.T.Denot). IsAbsent g.T.Keyed.hash_of g.T.Keyed.key_of (map Some s.items) c.args.hash c.args.key.now) c.self.view_is
    (absent_in_gap g.T.Keyed.hash_of g.T.Keyed.key_of c.self.inside.items.items c.self.invariant.sorted c.in-Err.ensures.none)
