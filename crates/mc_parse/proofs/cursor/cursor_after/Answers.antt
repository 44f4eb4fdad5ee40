use Rattle.std.proofs.Common.{subst, IfSome}
use Rattle.mc_parse.specs.Cursors.{PointsInto, IsFirst}
use Rattle.mc_parse.proofs.cursor.cursor_after.Goals as goal

pub returns-in-Some-clause-some : goal.returns-in-Some-clause-some
returns-in-Some-clause-some c =
    λ greatest known first. c.moved_to.ensures.points greatest (subst (λ k. IfSome k (λ cursor. PointsInto greatest cursor c.args.unread.now)) c.in-Some.is known)

pub returns-in-Some-first-clause-some : goal.returns-in-Some-first-clause-some
returns-in-Some-first-clause-some c =
    λ greatest known first. c.moved_to-in-Some-first.ensures.points greatest (subst (λ k. IfSome k (λ cursor. IsFirst greatest cursor c.args.unread.now)) c.in-Some-first.is first).0
