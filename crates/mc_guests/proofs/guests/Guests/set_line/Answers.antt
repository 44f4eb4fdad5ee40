use Rattle.std.proofs.Common.{length, refl, sym, ap, ◌∙◌, subst, arith}
use Rattle.mc_guests.specs.Books.{RowState}
use Rattle.mc_guests.specs.Budgets.{CountsAll}
use Rattle.mc_guests.specs.Guests.{in_line}
use Rattle.mc_guests.proofs.JudgeLemmas.{length_changed, counts_changed}
use Rattle.mc_guests.proofs.guests.Guests.set_line.Goals as goal

pub invariant_of-self : goal.invariant_of-self
invariant_of-self g c =
    let long = ap (λ (r : RowState). length r.guests) c.set_line.ensures ∙ length_changed (in_line c.args.line) c.args.at c.self.inside.row.guests in
    let all = c.self.invariant.0 in (
      omega (arith, long, all),
      subst (λ (r : RowState). CountsAll c.self.inside.budget r.guests) (sym c.set_line.ensures)
          (counts_changed (in_line c.args.line) (λ _. refl) (λ _. refl) (λ _. refl) c.args.at _ _ _ _ c.self.inside.row.guests c.self.invariant.1),
    )
