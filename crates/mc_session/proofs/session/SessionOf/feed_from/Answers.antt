use Rattle.mc_session.proofs.FeedLemmas.{brought_within, brought_fed}
use Rattle.mc_session.proofs.session.SessionOf.feed_from.Goals as goal

pub invariant_of-self : goal.invariant_of-self
invariant_of-self g c =
    brought_within g.S.Source.gives c.args.source.now c.push_from.new.source c.push_from.result c.self.inside.feed c.push_from.new.self c.self.inside.taken
    c.push_from.ensures.ok c.push_from.ensures.err c.self.invariant

pub returns-clause-ok : goal.returns-clause-ok
returns-clause-ok g c =
    brought_fed g.S.Source.gives c.args.source.now c.push_from.new.source c.push_from.result c.self.inside.feed c.push_from.new.self c.self.inside.taken (g.O.Outgoing.bytes c.self.inside.out) c.self.inside.is_open
    c.args.self.now c.self.view_is c.requires c.push_from.ensures.ok
