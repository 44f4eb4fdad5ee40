use Rattle.mc_grow.proofs.Words.{◌∷◌}
use Rattle.mc_grow.proofs.OrderLemmas.{own_is_found, own_number}
use Rattle.mc_grow.proofs.strays.place_of.Goals as goal

pub unreachable-requires : goal.unreachable-requires
unreachable-requires g c =
    own_is_found g.T.Keyed.hash_of g.T.Keyed.key_of c.args.items.now.items c.requires.order c.requires.inside c.index-entry.ensures (λ i. c.hash.ensures i ∷ c.key.ensures i) c.in-Err.ensures.none

pub returns-clause-there : goal.returns-clause-there
returns-clause-there g c =
    own_number g.T.Keyed.hash_of g.T.Keyed.key_of c.args.items.now.items c.requires.order c.requires.inside c.index-entry.ensures (λ i. c.hash.ensures i ∷ c.key.ensures i) c.in-Ok.ensures.found
