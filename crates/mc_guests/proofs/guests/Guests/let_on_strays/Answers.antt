use Rattle.std.proofs.Common.{◌≡◌, length, ap, ◌∙◌, arith}
use Rattle.mc_guests.specs.Books.{BooksState}
use Rattle.mc_guests.proofs.RetryLemmas.{strays_more, long_stray}
use Rattle.mc_guests.proofs.guests.Guests.let_on_strays.Goals as goal

pub loop-at-preserved : goal.loop-at-preserved
loop-at-preserved g c = (
  strays_more c.args.self.now.awake c.loop-at.at _ c.loop-at.self c.let_on_stray.new.self
      (let same : c.self.inside.awake ≡ c.args.self.now.awake = ap (λ (b : BooksState). b.awake) c.self.view_is in omega (arith, same)) c.loop-at.invariant.0 c.let_on_stray.ensures,
  ap (λ (b : BooksState). length b.row.guests) c.let_on_stray.ensures ∙ long_stray c.loop-at.at c.loop-at.self ∙ c.loop-at.invariant.1,
)
