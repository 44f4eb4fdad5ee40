use Rattle.std.proofs.Common.{◌≡◌, inl, inr, refl, arith}
use Rattle.mc_time.specs.Chains.{none_yet, one_more}
use Rattle.mc_guests.proofs.guests.Guests.let_on_in_turn.Goals as goal

pub loop-init : goal.loop-init
loop-init g c = none_yet

pub loop-preserved : goal.loop-preserved
loop-preserved g c = one_more c.loop.invariant (c.lets_next_on.ensures.goes c.if-not-lets_next_on.false)

pub returns-then-not-lets_next_on : goal.returns-then-not-lets_next_on
returns-then-not-lets_next_on g c = record {
  count = c.loop.counter;
  last = c.loop.self;
  turns = c.loop.invariant;
  over = inr (c.loop-test.true, c.lets_next_on.ensures.ends c.if-not-lets_next_on.true);
}

pub returns : goal.returns
returns g c =
    let all : c.loop.counter ≡ 256 = omega (arith, c.loop.auto.counter-end, c.loop-test.false) in record {
      count = c.loop.counter;
      last = c.loop.self;
      turns = c.loop.invariant;
      over = inl (all, refl);
    }
