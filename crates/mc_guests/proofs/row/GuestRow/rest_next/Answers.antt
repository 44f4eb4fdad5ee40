use Rattle.std.proofs.Common.{subst}
use Rattle.mc_guests.specs.Books.{RowState, SameButLeft}
use Rattle.mc_guests.specs.Budgets.{CountsAll}
use Rattle.mc_guests.proofs.LeftLemmas.{recounted_same, recounted_counts}
use Rattle.mc_guests.proofs.row.GuestRow.rest_next.Goals as goal

pub returns-then-at-len-clause-same : goal.returns-then-at-len-clause-same
returns-then-at-len-clause-same g c =
    subst (λ (r : RowState). SameButLeft r c.rest_at.new.self) c.self.view_is
    (recounted_same c.next_place-at.result c.rest_at.ensures.0 _ c.rest_at.new.self c.args.budget.now c.rest_at.new.budget c.rest_at.ensures.1)

pub returns-then-at-len-clause-counts : goal.returns-then-at-len-clause-counts
returns-then-at-len-clause-counts g c =
    subst (λ (r : RowState). CountsAll c.args.budget.now r.guests → CountsAll c.rest_at.new.budget c.rest_at.new.self.guests) c.self.view_is
    (recounted_counts c.next_place-at.result c.rest_at.ensures.0 _ c.rest_at.new.self c.args.budget.now c.rest_at.new.budget c.rest_at.ensures.1)
