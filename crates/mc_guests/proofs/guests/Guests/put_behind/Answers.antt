use Rattle.std.proofs.Common.{◌<◌, ◌-◌, length, sym, ap, ◌∙◌, subst, arith}
use Rattle.std.proofs.lemmas.List.Edits.{length-swap}
use Rattle.mc_guests.specs.Books.{RowState, BooksState}
use Rattle.mc_guests.proofs.BookLemmas.{counts_row_swapped}
use Rattle.mc_guests.proofs.guests.Guests.put_behind.Goals as goal

pub invariant_of-self : goal.invariant_of-self
invariant_of-self g c =
    let long = ap (λ (r : RowState). length r.guests) c.swap.ensures ∙ length-swap c.self.inside.row.guests c.args.at (c.self.inside.awake - 1) in
    let all = c.self.invariant.0 in
    let within : c.args.at < c.self.inside.awake = subst (λ (b : BooksState). c.args.at < b.awake) (sym c.self.view_is) c.requires in (
      omega (arith, long, all),
      counts_row_swapped c.args.at (c.self.inside.awake - 1) _ _ _ _ c.self.inside.row c.swap.new.self c.swap.ensures (omega (arith, within, all)) (omega (arith, within, all))
          c.self.invariant.1,
    )
