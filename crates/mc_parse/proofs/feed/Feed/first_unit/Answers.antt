use Rattle.std.proofs.Common.{drop, subst}
use Rattle.mc_parse.specs.Peeks.{BeginsWithNone}
use Rattle.mc_parse.specs.Feeds.{Unread}
use Rattle.mc_parse.proofs.FeedLemmas.{none_yet}
use Rattle.mc_parse.proofs.feed.Feed.first_unit.Goals as goal

pub returns-then-self-gt0-clause-none : goal.returns-then-self-gt0-clause-none
returns-then-self-gt0-clause-none c =
    λ _. subst (λ (u : Unread). BeginsWithNone u.greatest (drop u.passed u.bytes)) c.self.view_is
    (none_yet c.self.inside.greatest c.self.inside.passed c.self.inside.cursor c.self.inside.ahead c.self.inside.unread c.self.invariant c.if-self-gt0.true)
