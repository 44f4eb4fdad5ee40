use Rattle.std.proofs.Common.{length, drop, ap, ◌∙◌, arith}
use Rattle.mc_parse.proofs.SourceLemmas.{knew_from, kept_from, takes_from}
use Rattle.mc_parse.proofs.feed.Feed.push_from.Goals as goal

pub after-self-inside-requires : goal.after-self-inside-requires
after-self-inside-requires g c =
    let came = c.in-Ok.ensures.ok in
    let dropped = c.min-dropped.result in
    let long = ap length came.becomes in
    rw c.as_slice.ensures (knew_from c.self.inside.greatest c.self.inside.passed dropped c.self.inside.cursor c.self.inside.ahead c.self.inside.unread came.piece c.consume.new.self
    c.self.invariant (c.consume.ensures ∙ ap (drop dropped) came.becomes) (λ less. omega (arith, c.min-dropped.ensures, c.len.ensures, long))
    (λ less. omega (arith, c.min-dropped.ensures, c.len.ensures, long)))

pub invariant_of-self : goal.invariant_of-self
invariant_of-self g c =
    let came = c.in-Ok.ensures.ok in
    let dropped = c.min-dropped.result in
    let long = ap length came.becomes in
    kept_from c.self.inside.greatest c.self.inside.passed dropped c.self.inside.cursor c.self.inside.ahead c.self.inside.unread came.piece c.offer.new.self
    c.self.invariant (c.offer.ensures ∙ c.consume.ensures ∙ ap (drop dropped) came.becomes) (λ less. omega (arith, c.min-dropped.ensures, c.len.ensures, long))
    (λ less. omega (arith, c.min-dropped.ensures, c.len.ensures, long))
    c.after-self-inside.result (rw (c.offer.ensures, ← c.as_slice.ensures) c.after-self-inside.ensures)

pub returns-in-Ok-clause-ok : goal.returns-in-Ok-clause-ok
returns-in-Ok-clause-ok g c =
    let came = c.in-Ok.ensures.ok in
    let dropped = c.min-dropped.result in
    let long = ap length came.becomes in
    record {
      piece = came.piece;
      gave = came.gave;
      becomes = takes_from c.self.inside.greatest c.self.inside.passed dropped c.self.inside.cursor c.self.inside.ahead c.self.inside.unread came.piece c.offer.new.self
          c.self.invariant (c.offer.ensures ∙ c.consume.ensures ∙ ap (drop dropped) came.becomes) (λ less. omega (arith, c.min-dropped.ensures, c.len.ensures, long))
          (λ less. omega (arith, c.min-dropped.ensures, c.len.ensures, long))
          c.args.self.now c.self.view_is;
    }
