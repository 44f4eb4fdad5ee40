use Rattle.std.proofs.Common.{◌∙◌, ap, arith}
use Rattle.mc_parse.specs.Feeds.{pushed}
use Rattle.mc_parse.proofs.AheadLemmas.{knew_more}
use Rattle.mc_parse.proofs.FeedLemmas.{settled_pushed, view_pushed, cursor_pushed}
use Rattle.mc_parse.proofs.feed.Feed.push.Goals as goal

pub after-self-inside-requires : goal.after-self-inside-requires
after-self-inside-requires c =
    rw (c.as_slice.ensures, c.in_ok-push_part.ensures.ok) (knew_more c.self.inside.greatest c.self.inside.ahead c.self.inside.unread c.split_at.result.1.now c.self.invariant.knows)

pub invariant_of-self-2 : goal.invariant_of-self-2
invariant_of-self-2 c = record {
  settled =
      rw (c.offer.ensures, c.in_ok-push_part.ensures.ok)
      (settled_pushed c.self.inside.passed c.min-skipped.result c.self.inside.unread c.args.piece.now c.split_at.result.1.now c.self.invariant.settled
      c.split_at.ensures.back (λ less. omega (arith, c.min-skipped.ensures)) (λ less. omega (arith, c.min-skipped.ensures)));
  points = rw (c.offer.ensures, c.in_ok-push_part.ensures.ok) (cursor_pushed c.self.inside.greatest c.self.inside.cursor c.self.inside.unread c.split_at.result.1.now c.self.invariant.points);
  knows = rw (c.offer.ensures, ← c.as_slice.ensures) c.after-self-inside.ensures;
}

pub returns-clause-ok : goal.returns-clause-ok
returns-clause-ok c =
    view_pushed c.self.inside.passed c.min-skipped.result c.self.inside.unread c.args.piece.now c.split_at.result.1.now c.self.invariant.settled
    c.split_at.ensures.back (λ less. omega (arith, c.min-skipped.ensures)) (λ less. omega (arith, c.min-skipped.ensures)) c.self.inside.greatest c.offer.new.self (c.offer.ensures ∙ c.in_ok-push_part.ensures.ok)
    ∙ ap (λ u. pushed u c.args.piece.now) c.self.view_is
