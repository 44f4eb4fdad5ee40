use Rattle.std.proofs.Common.{subst, sym, IfSome}
use Rattle.mc_parse.specs.Cursors.{PointsInto}
use Rattle.mc_parse.specs.Feeds.{Unread}
use Rattle.mc_parse.proofs.feed.Feed.mark.Goals as goal

pub invariant_of-self : goal.invariant_of-self
invariant_of-self c = record {
  settled = c.self.invariant.settled;
  points = subst (λ (u : Unread). IfSome c.cursor_at-self-inside.result (λ cursor. PointsInto u.greatest cursor u.bytes)) (sym c.self.view_is) c.cursor_at-self-inside.ensures.some;
  knows = c.self.invariant.knows;
}
