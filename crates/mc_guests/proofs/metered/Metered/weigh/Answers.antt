use Rattle.std.proofs.Common.{refl, ap}
use Rattle.mc_guests.specs.Guests.{RowGuest}
use Rattle.mc_guests.proofs.BudgetLemmas.{recounts_left, recounts_again}
use Rattle.mc_guests.proofs.metered.Metered.weigh.Goals as goal

pub returns-clause-counts : goal.returns-clause-counts
returns-clause-counts g c =
    recounts_again c.args.self.now c.bytes_after-bytes.new.self c.bytes_after-bytes.new.self c.recount.new.self c.args.budget.now c.bytes_after-bytes.new.budget
    c.recount.new.budget refl refl refl
    (recounts_left c.args.self.now c.bytes_after-bytes.new.self c.args.budget.now c.bytes_after-bytes.new.budget
    (ap (λ (w : RowGuest). w.counted) c.bytes_after-bytes.ensures.same) (ap (λ (w : RowGuest). w.waits) c.bytes_after-bytes.ensures.same)
    c.bytes_after-bytes.ensures.counts) c.recount.ensures.counts
