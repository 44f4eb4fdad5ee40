use Rattle.std.proofs.Common.{◌≡◌, ◌≤◌, length, sym, ◌∙◌, ap, arith}
use Rattle.mc_parse.specs.Feeds.{Unread}
use Rattle.mc_parse.proofs.FeedLemmas.{view_read, unread}
use Rattle.mc_parse.proofs.feed.Feed.done_passing.Goals as goal

pub returns : goal.returns
returns c =
    let old = c.self.inside.unread in
    let none : c.self.inside.passed ≡ 0 = ap (λ (u : Unread). u.passed) c.self.view_is ∙ c.requires.none in
    let bytes : old ≡ c.args.self.now.bytes = ap (λ (u : Unread). u.bytes) c.self.view_is in
    let inside : c.args.len ≤ length old = rw bytes c.requires.inside in
    view_read c.self.inside.greatest c.args.self.now old c.consume.new.self c.args.len c.args.passed c.min-dropped.result
    (sym c.self.view_is ∙ ap (λ p. unread c.self.inside.greatest p old) none) c.consume.ensures inside
    (λ less. omega (arith, c.min-dropped.ensures, c.len.ensures)) (λ more. omega (arith, c.min-dropped.ensures, c.len.ensures))
