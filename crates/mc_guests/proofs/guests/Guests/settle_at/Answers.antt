use Rattle.std.proofs.Common.{refl, ap}
use Rattle.mc_guests.specs.Books.{BooksState}
use Rattle.mc_guests.specs.declared.guests.NextState.TheVariants.{GoesOn, Waits, Sleeps, Ended}
use Rattle.mc_guests.proofs.BookLemmas.{settles_over, settles_queued, settles_asleep, settles_awake}
use Rattle.mc_guests.proofs.LeavingLemmas.{goes_to, stays_to, lined_gone}
use Rattle.mc_guests.proofs.guests.Guests.settle_at.Goals as goal

pub returns-in-GoesOn : goal.returns-in-GoesOn
returns-in-GoesOn g c =
    stays_to _ c.args.at c.args.self.now c.args.self.now c.args.end.now c.fate_at.new.end GoesOn c.in-GoesOn.ensures
    (settles_awake c.args.at GoesOn c.args.self.now c.args.self.now c.args.end.now c.fate_at.new.end c.in-GoesOn.ensures refl refl refl refl) refl refl

pub returns-in-Waits : goal.returns-in-Waits
returns-in-Waits g c =
    stays_to _ c.args.at c.args.self.now c.line_up.new.self c.args.end.now c.fate_at.new.end Waits c.in-Waits.ensures
    (settles_queued c.args.at Waits c.args.self.now c.line_up.new.self c.args.end.now c.fate_at.new.end c.in-Waits.ensures refl refl refl c.line_up.ensures) refl
    (lined_gone c.args.at c.args.self.now c.line_up.new.self c.line_up.ensures)

pub returns-in-Sleeps : goal.returns-in-Sleeps
returns-in-Sleeps g c =
    stays_to _ c.args.at c.args.self.now c.put_behind.new.self c.args.end.now c.fate_at.new.end Sleeps c.in-Sleeps.ensures
    (settles_asleep c.args.at Sleeps c.args.self.now c.put_behind.new.self c.args.end.now c.fate_at.new.end c.in-Sleeps.ensures refl refl refl c.put_behind.ensures) refl
    (ap (λ (b : BooksState). b.gone) c.put_behind.ensures)

pub returns-in-Ended : goal.returns-in-Ended
returns-in-Ended g c =
    goes_to _ c.args.at c.args.self.now c.let_go.new.self c.args.end.now c.fate_at.new.end Ended c.in-Ended.ensures
    (settles_over c.args.at Ended c.args.self.now c.let_go.new.self c.args.end.now c.fate_at.new.end c.in-Ended.ensures refl c.let_go.ensures.goes) refl c.let_go.ensures.leaves
