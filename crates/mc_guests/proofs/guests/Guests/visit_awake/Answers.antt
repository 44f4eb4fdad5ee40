use Rattle.std.proofs.Common.{refl, subst}
use Rattle.mc_guests.specs.Books.{BooksState, books}
use Rattle.mc_guests.specs.Turns.{VisitsAwake}
use Rattle.mc_guests.proofs.guests.Guests.visit_awake.Goals as goal

pub returns-clause-visits : goal.returns-clause-visits
returns-clause-visits g c =
    let later : BooksState = books c.visit_front.new.self c.self.inside.awake c.visit_front.new.budget c.self.inside.queue.items c.self.inside.is_last c.self.inside.has_strays c.self.inside.gone in
    subst (λ (b : BooksState). VisitsAwake g.S.Steps c.args.now b later c.args.store.now c.visit_front.new.store) c.self.view_is (record {
      whole = c.visit_front.ensures.whole;
      counts = c.self.invariant.1;
      turns = c.visit_front.ensures.turns;
      keeps = record { share = c.visit_front.ensures.share; asleep = c.visit_front.ensures.rest; numbers = c.visit_front.ensures.numbers; same = refl };
    })
