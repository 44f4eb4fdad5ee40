use Rattle.std.proofs.Common.{arith}
use Rattle.mc_parse.proofs.SearchLemmas.{feed_inside, line_found, none_found}
use Rattle.mc_parse.proofs.peek.first_feed.Goals as goal

pub returns-in-Some-clause-some : goal.returns-in-Some-clause-some
returns-in-Some-clause-some c =
    let n = c.min.result in
    let start = c.min-searched.result in (
      feed_inside c.args.unread.now c.split_at.result.0.now c.split_at-2.result.1.now n c.args.searched start c.split_at.ensures.front
          (omega (arith, c.min.ensures)) c.split_at-2.ensures.back (omega (arith, c.min-searched.ensures, c.split_at.ensures.front_len))
          (omega (arith, c.min-searched.ensures)) c.requires c.in-Some.place c.in-Some.ensures,
      line_found c.args.unread.now c.split_at.result.0.now c.split_at-2.result.1.now n c.args.searched start c.split_at.ensures.front
          (omega (arith, c.min.ensures)) c.split_at-2.ensures.back (omega (arith, c.min-searched.ensures, c.split_at.ensures.front_len))
          (omega (arith, c.min-searched.ensures)) c.requires c.in-Some.place c.in-Some.ensures (omega (arith, c.min.ensures)),
    )

pub returns-in-None-clause-none : goal.returns-in-None-clause-none
returns-in-None-clause-none c = λ _.
    none_found c.args.unread.now c.split_at.result.0.now c.split_at-2.result.1.now c.min.result c.args.searched c.min-searched.result c.split_at.ensures.front
    (omega (arith, c.min.ensures)) c.split_at-2.ensures.back (omega (arith, c.min-searched.ensures, c.split_at.ensures.front_len)) (omega (arith, c.min-searched.ensures)) c.requires
    (λ few. omega (arith, c.min.ensures)) (λ many. omega (arith, c.min.ensures)) c.in-None.ensures
