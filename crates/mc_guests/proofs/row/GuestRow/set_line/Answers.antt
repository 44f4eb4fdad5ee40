use Rattle.std.proofs.Common.{List, refl, sym, ap, ◌∙◌}
use Rattle.std.proofs.lemmas.List.{length-set}
use Rattle.std.proofs.lemmas.Option.{slice_get_read}
use Rattle.mc_guests.specs.Books.{RowState, with_guest}
use Rattle.mc_guests.specs.Guests.{RowGuest, in_line}
use Rattle.mc_guests.proofs.JudgeLemmas.{within_shown, set_changed}
use Rattle.mc_guests.proofs.row.GuestRow.set_line.Goals as goal

pub invariant_of-self : goal.invariant_of-self
invariant_of-self g c = c.self.invariant ∙ sym (length-set c.self.inside.guests.items c.args.at c.set_line.new.self)

pub returns : goal.returns
returns g c =
    let items = c.self.inside.guests.items in
    ap (λ (l : List RowGuest). record { guests = l; numbers = c.self.inside.numbers })
    (set_changed (in_line c.args.line) c.args.at items _ c.set_line.new.self
    (slice_get_read items _ c.args.at _ refl (within_shown c.args.at _ c.args.self.now c.self.view_is c.requires) c.index_mut.ensures.value)
    (◌∙◌ {b = in_line c.args.line c.deref_mut.result.now} c.set_line.ensures
    (ap (in_line c.args.line) (◌∙◌ {b = c.behind-self.inside.inner.value} c.deref_mut.ensures.value c.behind-self.view_is))))
    ∙ ap (λ (r : RowState). with_guest (in_line c.args.line) c.args.at r) c.self.view_is
