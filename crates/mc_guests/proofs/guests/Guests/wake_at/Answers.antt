use Rattle.std.proofs.Common.{length, ap, ◌∙◌, arith}
use Rattle.std.proofs.lemmas.List.Edits.{length-swap}
use Rattle.mc_guests.specs.Books.{RowState}
use Rattle.mc_guests.proofs.BookLemmas.{counts_row_swapped}
use Rattle.mc_guests.proofs.guests.Guests.wake_at.Goals as goal

pub invariant_of-self : goal.invariant_of-self
invariant_of-self g c =
    let long = ap (λ (r : RowState). length r.guests) c.swap.ensures ∙ length-swap c.self.inside.row.guests c.args.at c.self.inside.awake in
    let behind = c.if-self-at.true in
    let stands = c.if-at-len.true in
    let all = c.len.ensures in (
      omega (arith, long, behind, stands, all),
      counts_row_swapped c.args.at c.self.inside.awake _ _ _ _ c.self.inside.row c.swap.new.self c.swap.ensures (omega (arith, stands, all)) (omega (arith, behind, stands, all))
          c.self.invariant.1,
    )
