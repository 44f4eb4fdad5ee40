use Rattle.std.proofs.Common.{arith, refl}
use Rattle.mc_sockets.proofs.link_table.LinkTable.settle.Goals as goal

pub returns-in-Some-clause-settles : goal.returns-in-Some-clause-settles
returns-in-Some-clause-settles g c = λ _. record {
  place = c.new-place.result;
  number = λ i. (c.new-place.ensures i).number;
  readiness = λ i. (c.new-place.ensures i).readiness;
  there = λ _. refl;
  behind = λ is. absurd (grind (arith, is, c.in-Some.ensures.variant.0 refl, c.args.self.now.places.ok.0));
  within = grind (arith, c.in-Some.ensures.variant.0 refl, c.args.self.now.places.ok.0);
  names = refl;
  given = refl;
}

pub returns-then-at-len-clause-settles : goal.returns-then-at-len-clause-settles
returns-then-at-len-clause-settles g c = λ done. record {
  place = c.new-place.result;
  number = λ i. (c.new-place.ensures i).number;
  readiness = λ i. (c.new-place.ensures i).readiness;
  there = λ is. absurd (grind (arith, is, c.if-at-len.true, c.len.ensures, c.args.self.now.places.ok.0));
  behind = λ _. grind (arith, done, c.push.ensures.items, c.is_ok.ensures.value);
  within = grind (arith, c.if-at-len.true, c.len.ensures, c.args.self.now.places.ok.0);
  names = refl;
  given = refl;
}
