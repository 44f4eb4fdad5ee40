use Rattle.std.proofs.Common.{◌≡◌, ◌∙◌, ap, subst, IfSome}
use Rattle.mc_parse.specs.Aheads.{Knows}
use Rattle.mc_parse.specs.Cursors.{PointsInto}
use Rattle.mc_parse.specs.Feeds.{Unread}
use Rattle.mc_parse.proofs.feed.Feed.cursor_at.Goals as goal

pub cursor-requires : goal.cursor-requires
cursor-requires c = (c.self.inside.greatest, c.self.inside.unread, c.self.invariant.knows)

pub cursor_after-requires-clause-known : goal.cursor_after-requires-clause-known
cursor_after-requires-clause-known c = (c.self.inside.greatest, rw c.as_slice-unread.ensures c.self.invariant.points)

pub cursor_after-requires-clause-first : goal.cursor_after-requires-clause-first
cursor_after-requires-clause-first c =
    let greatest = c.self.inside.greatest in
    let knows : Knows greatest c.self.inside.ahead c.as_slice-unread.result.now = rw c.as_slice-unread.ensures c.self.invariant.knows in
    (greatest, c.cursor.ensures.some greatest c.as_slice-unread.result.now knows)

pub returns-clause-some : goal.returns-clause-some
returns-clause-some c =
    let greatest = c.self.inside.greatest in
    let known : IfSome c.self.inside.cursor (λ cursor. PointsInto greatest cursor c.as_slice-unread.result.now) = rw c.as_slice-unread.ensures c.self.invariant.points in
    let knows : Knows greatest c.self.inside.ahead c.as_slice-unread.result.now = rw c.as_slice-unread.ensures c.self.invariant.knows in
    let here : IfSome c.cursor_after.result (λ cursor. PointsInto greatest cursor c.self.inside.unread) =
    rw (← c.as_slice-unread.ensures) (c.cursor_after.ensures.some greatest known (c.cursor.ensures.some greatest c.as_slice-unread.result.now knows)) in
    subst (λ (u : Unread). IfSome c.cursor_after.result (λ cursor. PointsInto u.greatest cursor u.bytes)) c.self.view_is here

pub returns-clause-none : goal.returns-clause-none
returns-clause-none c = λ none unit len is.
    let greatest : c.self.inside.greatest ≡ c.args.self.now.greatest = ap (λ (u : Unread). u.greatest) c.self.view_is in
    let bytes : c.as_slice-unread.result.now ≡ c.args.self.now.bytes = c.as_slice-unread.ensures ∙ ap (λ (u : Unread). u.bytes) c.self.view_is in
    let knows : Knows c.self.inside.greatest c.self.inside.ahead c.as_slice-unread.result.now = rw c.as_slice-unread.ensures c.self.invariant.knows in
    c.cursor.ensures.none c.self.inside.greatest c.args.taken c.as_slice-unread.result.now knows (c.cursor_after.ensures.none none) unit len (rw (greatest, bytes) is)
