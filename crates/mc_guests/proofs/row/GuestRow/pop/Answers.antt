use Rattle.std.proofs.Common.{ap, ◌∙◌}
use Rattle.mc_guests.specs.Guests.{RowGuest}
use Rattle.mc_guests.proofs.LeavingLemmas.{last_stands}
use Rattle.mc_guests.proofs.row.GuestRow.pop.Goals as goal

pub returns-clause-link : goal.returns-clause-link
returns-clause-link g c = (
  c.in-Some.guest,
  last_stands c.self.inside.guests.items _ c.in-Some.guest c.self.inside.numbers c.args.self.now c.self.view_is c.in-Some.ensures.items,
  c.into_link.ensures ∙ c.leave.ensures.link ∙ ap (λ (r : RowGuest). r.guest.link) (c.deref_mut.ensures.value ∙ c.guest.view_is),
)
