use Rattle.std.proofs.Common.{refl, ap}
use Rattle.mc_guests.specs.Guests.{RowGuest}
use Rattle.mc_guests.proofs.BudgetLemmas.{recounts_none, recounts_again}
use Rattle.mc_guests.proofs.metered.Metered.visit_guest.Goals as goal

pub returns-clause-counts : goal.returns-clause-counts
returns-clause-counts g c =
    recounts_again c.args.self.now c.args.self.now _ c.weigh.new.self c.args.budget.now c.args.budget.now c.weigh.new.budget
    (ap (λ (w : RowGuest). w.counted) c.self.view_is) (ap (λ (w : RowGuest). w.waits) c.self.view_is) (ap (λ (w : RowGuest). w.left) c.self.view_is)
    (recounts_none c.args.self.now c.args.self.now c.args.budget.now c.args.budget.now refl refl refl refl) c.weigh.ensures.counts
