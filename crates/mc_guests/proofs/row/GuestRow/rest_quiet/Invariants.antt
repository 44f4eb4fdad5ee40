use Rattle.std.proofs.Common.{◌≡◌}
use Rattle.mc_guests.specs.Books.{SameButLeft}
use Rattle.mc_guests.specs.Budgets.{CountsAll, with_left}
use Rattle.mc_guests.proofs.row.GuestRow.rest_quiet.Given as goal

abbrev pub invariant-loop : goal.invariant-loop
invariant-loop g l =
    SameButLeft l.fn.self l.self
    × (CountsAll l.fn.budget l.fn.self.guests → CountsAll l.budget l.self.guests)
    × (l.budget ≡ with_left l.budget.left l.fn.budget)
