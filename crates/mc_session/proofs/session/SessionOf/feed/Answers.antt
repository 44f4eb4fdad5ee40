use Rattle.mc_parse.specs.Feeds.{Unread, pushed}
use Rattle.mc_session.specs.Answers.{IsWithinUnit}
use Rattle.mc_session.proofs.FeedLemmas.{within_more, either_way}
use Rattle.mc_session.proofs.session.SessionOf.feed.Goals as goal

pub invariant_of-self : goal.invariant_of-self
invariant_of-self g c =
    either_way (λ (u : Unread). IsWithinUnit u c.self.inside.taken) c.push.result c.self.inside.feed (pushed c.self.inside.feed c.args.piece.now) c.push.new.self c.push.ensures.ok c.push.ensures.err
    (within_more c.self.inside.feed c.self.inside.taken c.args.piece.now c.self.invariant) c.self.invariant
