use Rattle.mc_parse.proofs.FeedLemmas.{kept_none}
use Rattle.mc_parse.proofs.feed.Feed.clear.Goals as goal

pub invariant_of-self : goal.invariant_of-self
invariant_of-self c = rw (c.none-self-inside.ensures, c.clear.ensures) (kept_none c.self.inside.greatest _)
