use Rattle.std.proofs.Common.{refl}
use Rattle.mc_guests.proofs.BudgetLemmas.{recounts_again}
use Rattle.mc_guests.proofs.metered.Metered.visit.Goals as goal

pub returns-clause-counts : goal.returns-clause-counts
returns-clause-counts g c =
    recounts_again c.args.self.now c.may_go_on.new.self c.may_go_on.new.self c.visit_guest.new.self c.args.budget.now c.may_go_on.new.budget
    c.visit_guest.new.budget refl refl refl c.may_go_on.ensures.counts c.visit_guest.ensures.counts
