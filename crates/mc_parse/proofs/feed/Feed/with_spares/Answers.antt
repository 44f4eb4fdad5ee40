use Rattle.mc_parse.proofs.FeedLemmas.{kept_none}
use Rattle.mc_parse.proofs.feed.Feed.with_spares.Goals as goal

pub invariant_of-result : goal.invariant_of-result
invariant_of-result c = rw (c.none.ensures, c.new.ensures) (kept_none c.args.greatest _)
