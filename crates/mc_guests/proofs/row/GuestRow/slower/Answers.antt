use Rattle.std.proofs.Common.{sym, ◌∙◌}
use Rattle.mc_guests.specs.Judging.{sought_rate}
use Rattle.mc_guests.proofs.JudgeLemmas.{slower_here, slower_before, slower_not}
use Rattle.mc_guests.proofs.row.GuestRow.slower.Goals as goal

pub returns-in-Some : goal.returns-in-Some
returns-in-Some g c =
    slower_here (sought_rate c.args.sought c.args.ticks) c.args.at c.args.self.now.guests _ c.at-guest.ensures c.in-Some.rate c.args.found c.requires.found (sym c.in-Some.ensures)
    (sym c.undercuts.ensures ∙ c.if-undercuts.true)

pub returns-in_default : goal.returns-in_default
returns-in_default g c =
    slower_before (sought_rate c.args.sought c.args.ticks) c.args.at c.args.self.now.guests _ c.at-guest.ensures c.in-Some.rate c.args.found c.requires.found (sym c.in-Some.ensures)
    (sym c.undercuts.ensures ∙ c.if-undercuts.false)

pub returns-in_default-2 : goal.returns-in_default-2
returns-in_default-2 g c =
    slower_not (sought_rate c.args.sought c.args.ticks) c.args.at c.args.self.now.guests _ c.at-guest.ensures c.args.found c.requires.found (sym c.in_default.ensures)
