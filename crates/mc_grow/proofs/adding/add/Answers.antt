use Rattle.mc_grow.proofs.Words.{ap, ◌∙◌, ◌∷◌, get, Map, entry_absent}
use Rattle.mc_grow.proofs.adding.add.Goals as goal

pub put_within-requires-clause-new : goal.put_within-requires-clause-new
put_within-requires-clause-new g c =
    let absent = entry_absent g.T.Keyed.hash_of g.T.Keyed.key_of in
    (absent c.bring_near.new.hop.items _ _).1
    (ap (λ (m : Map g.row.T.Denot). get m (g.T.Keyed.hash_of c.args.entry ∷ g.T.Keyed.key_of c.args.entry)) c.bring_near.ensures.content ∙ (absent c.args.table.now.items _ _).0 c.requires)
