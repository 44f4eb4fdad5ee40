use Rattle.std.proofs.Common.{arith}
use Rattle.mc_parse.proofs.AheadLemmas.{knows_nothing}
use Rattle.mc_parse.proofs.feed.front_of.Goals as goal

pub returns-then-len-eq0 : goal.returns-then-len-eq0
returns-then-len-eq0 c = rw c.none.ensures (knows_nothing c.args.greatest c.args.unread.now (omega (arith, c.len.ensures, c.if-len-eq0.true)))
