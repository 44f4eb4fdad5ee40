use Rattle.std.proofs.Common.{sym, subst}
use Rattle.mc_guests.specs.Budgets.{RecountsLeft}
use Rattle.mc_guests.specs.Guests.{RowGuest}
use Rattle.mc_guests.proofs.metered.Metered.rest_if_quiet.Goals as goal

pub returns : goal.returns
returns g c =
    subst (λ (w : RowGuest). RecountsLeft w.left c.args.self.now w c.args.budget.now c.count_left.new.budget) (sym c.free_if_quiet.ensures) c.count_left.ensures
