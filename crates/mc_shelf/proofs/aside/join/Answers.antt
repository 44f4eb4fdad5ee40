use Rattle.mc_shelf.proofs.Common.{◌∙◌, ap, arith, count_in}
use Rattle.mc_shelf.proofs.AsideLemmas.{count_in-last, none_last}
use Rattle.mc_shelf.proofs.aside.join.Goals as goal

pub loop-shelf-preserved-then-not-holds_none : goal.loop-shelf-preserved-then-not-holds_none
loop-shelf-preserved-then-not-holds_none c =
    let loop = c.loop-shelf in
    let cases = c.in-Some.ensures.cases in
    record {
      room = omega (arith, loop.invariant.room, cases, c.push_reserved.ensures.len, c.push_reserved.ensures.capacity);
      count = λ class.
          let all = ap (λ l. count_in l class) c.in-Some.ensures.items ∙ count_in-last c.pop.new.self.items c.in-Some.shelf class in
          let more = ap (λ l. count_in l class) c.push_reserved.ensures.items ∙ count_in-last loop.joined.items c.in-Some.shelf class in
          omega (arith, all, more, loop.invariant.count class);
    }

pub loop-shelf-preserved : goal.loop-shelf-preserved
loop-shelf-preserved c =
    let loop = c.loop-shelf in
    let cases = c.in-Some.ensures.cases in
    record {
      room = omega (arith, loop.invariant.room, cases);
      count = λ class.
          let same = none_last loop.others.items c.pop.new.self.items c.in-Some.shelf c.in-Some.ensures.items
          (c.holds_none.ensures c.if-not-holds_none.false) class in
          omega (arith, same, loop.invariant.count class);
    }
