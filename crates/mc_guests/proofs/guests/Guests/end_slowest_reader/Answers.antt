use Rattle.std.proofs.Common.{sym, ap, ◌∙◌, arith}
use Rattle.mc_guests.specs.Books.{BooksState}
use Rattle.mc_guests.specs.Budgets.{is_over}
use Rattle.mc_guests.proofs.LeftLemmas.{ends_long, ends_counts, some_ended}
use Rattle.mc_guests.proofs.guests.Guests.end_slowest_reader.Goals as goal

pub invariant_of-self : goal.invariant_of-self
invariant_of-self g c =
    let long = ends_long c.end_slowest_reader.result c.self.inside.row c.end_slowest_reader.new.self c.self.inside.budget c.end_slowest_reader.new.budget c.end_slowest_reader.ensures in
    let all = c.self.invariant.0 in (
      omega (arith, long, all),
      ends_counts c.end_slowest_reader.result c.self.inside.row c.end_slowest_reader.new.self c.self.inside.budget c.end_slowest_reader.new.budget c.end_slowest_reader.ensures
          c.self.invariant.1,
    )

pub returns-clause-over : goal.returns-clause-over
returns-clause-over g c =
    let over = sym c.is_over.ensures ∙ c.if-not-is_over.false in
    some_ended c.end_slowest_reader.result c.self.inside.row c.end_slowest_reader.new.self c.self.inside.budget c.end_slowest_reader.new.budget c.end_slowest_reader.ensures
    c.self.invariant.1 over ∙ sym over ∙ ap (λ (b : BooksState). is_over b.budget) c.self.view_is
