use Rattle.std.proofs.Common.{subst}
use Rattle.mc_guests.specs.Books.{BooksState, books}
use Rattle.mc_guests.specs.Retries.{KeepsRoom}
use Rattle.mc_guests.proofs.RetryLemmas.{keeps_room}
use Rattle.mc_guests.proofs.guests.Guests.keep_room.Goals as goal

pub returns : goal.returns
returns g c =
    let inside : BooksState = books c.self.inside.row c.self.inside.awake c.self.inside.budget c.self.inside.queue.items c.self.inside.is_last c.self.inside.has_strays c.self.inside.gone in
    subst (λ (b : BooksState). KeepsRoom c.args.at b (record inside { budget = record inside.budget { is_kept = c.is_kept_for-self-inside.result } })) c.self.view_is
    (keeps_room c.args.at c.at.result.now c.is_kept_for-self-inside.result c.waits_long-is_long.result inside c.at.ensures c.waits_long-is_long.ensures c.is_kept_for-self-inside.ensures)
