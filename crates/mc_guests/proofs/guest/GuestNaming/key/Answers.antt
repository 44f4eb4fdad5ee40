use Rattle.std.proofs.Common.{sym, subst}
use Rattle.mc_session.specs.Reading.{ReadsNext}
use Rattle.mc_guests.specs.Guests.{GuestState}
use Rattle.mc_guests.proofs.guest.GuestNaming.key.Goals as goal

pub returns-clause-all : goal.returns-clause-all
returns-clause-all g c = λ key names.
    c.key.ensures.all key (subst (λ (s : GuestState). ReadsNext s.session key) (sym c.self.view_is) names.reads)
