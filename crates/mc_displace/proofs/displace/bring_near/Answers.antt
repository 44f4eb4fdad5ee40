use Rattle.std.proofs.Common.{ap, is_some, arith, Ok}
use Rattle.mc_displace.proofs.displace.bring_near.Goals as goal

pub returns-in-None-clause-stuck : goal.returns-in-None-clause-stuck
returns-in-None-clause-stuck g c = record {
  low = omega (arith, c.if-free-home-lt32.false, c.loop-turn.invariant.low);
  high = omega (arith, c.loop-turn.invariant.nearer, c.requires.range.1);
  empty = c.loop-turn.invariant.empty;
  none = c.movable.ensures.none (ap is_some c.in-None.is);
}

pub returns-then-free-home-lt32-clause-at_once : goal.returns-then-free-home-lt32-clause-at_once
returns-then-free-home-lt32-clause-at_once g c = λ small. let kept = c.loop-turn.invariant.near small in (ap Ok kept.1, kept.0)
