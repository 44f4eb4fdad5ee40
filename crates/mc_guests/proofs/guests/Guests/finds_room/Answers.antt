use Rattle.std.proofs.Common.{subst, true, false}
use Rattle.mc_guests.specs.Books.{BooksState, books}
use Rattle.mc_guests.specs.Retries.{PromisesRoom}
use Rattle.mc_guests.proofs.RetryLemmas.{promises, promises_none}
use Rattle.mc_guests.proofs.guests.Guests.finds_room.Goals as goal

pub returns-then-has_left : goal.returns-then-has_left
returns-then-has_left g c =
    let inside : BooksState = books c.self.inside.row c.self.inside.awake c.self.inside.budget c.self.inside.queue.items c.self.inside.is_last c.self.inside.has_strays c.self.inside.gone in
    subst (λ (b : BooksState). PromisesRoom c.args.at true b (record inside { budget = c.promise.new.self })) c.self.view_is
    (promises c.args.at c.missing-missing.result c.at.result.now c.has_left.result inside c.promise.new.self c.at.ensures c.missing-missing.ensures
    c.has_left.ensures c.if-has_left.true c.promise.ensures)

pub returns : goal.returns
returns g c =
    let inside : BooksState = books c.self.inside.row c.self.inside.awake c.self.inside.budget c.self.inside.queue.items c.self.inside.is_last c.self.inside.has_strays c.self.inside.gone in
    subst (λ (b : BooksState). PromisesRoom c.args.at false b b) c.self.view_is
    (promises_none c.args.at c.missing-missing.result c.at.result.now c.has_left.result inside c.at.ensures c.missing-missing.ensures
    c.has_left.ensures c.if-has_left.false)
