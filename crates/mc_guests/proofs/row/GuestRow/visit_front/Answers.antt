use Rattle.std.proofs.Common.{◌≤◌, List, length, sym, subst, arith}
use Rattle.mc_guests.specs.Asks.{most}
use Rattle.mc_guests.specs.Books.{RowState}
use Rattle.mc_guests.specs.Budgets.{CountsAll}
use Rattle.mc_guests.specs.Guests.{RowGuest}
use Rattle.mc_guests.proofs.BudgetLemmas.{counts_front}
use Rattle.mc_guests.proofs.PlaceLemmas.{lent_back}
use Rattle.mc_guests.proofs.row.GuestRow.visit_front.Goals as goal

pub returns-clause-counts : goal.returns-clause-counts
returns-clause-counts g c = λ counts.
    let lent = c.as_mut_slice.ensures.value in
    let fits : length c.as_mut_slice.result.now ≤ most = omega (arith, c.len-all.ensures, c.as_mut_slice.ensures.len, c.self.inside.guests.ok.0) in
    let back = lent_back c.self.inside.guests.items c.visit_front_of.new.guests c.self.inside.guests.len (omega (arith, c.self.inside.guests.ok.0)) (cc (c.visit_front_of.ensures.all, lent)) in
    let before : CountsAll c.args.budget.now c.as_mut_slice.result.now = subst (λ (l : List RowGuest). CountsAll c.args.budget.now l) (sym lent)
    (subst (λ (r : RowState). CountsAll c.args.budget.now r.guests) (sym c.self.view_is) counts) in
    subst (λ (l : List RowGuest). CountsAll c.visit_front_of.new.budget l) (sym back)
    (counts_front c.args.count c.as_mut_slice.result.now c.visit_front_of.new.guests c.args.budget.now c.visit_front_of.new.budget fits c.visit_front_of.ensures.rest
    c.visit_front_of.ensures.counts before)
