use Rattle.mc_grow.proofs.Words.{Option, sym, subst, HopState, IsAbsent, drained_items}
use Rattle.mc_grow.proofs.parts.find_drained.Goals as goal

pub returns-in-Some-clause-none : goal.returns-in-Some-clause-none
returns-in-Some-clause-none g c none =
    subst (λ (o : Option (HopState g.row.T.Denot)). IsAbsent g.T.Keyed.hash_of g.T.Keyed.key_of (drained_items o) c.args.hash c.args.key.now) (sym c.in-Some.is) (c.find_counted.ensures.none none)
