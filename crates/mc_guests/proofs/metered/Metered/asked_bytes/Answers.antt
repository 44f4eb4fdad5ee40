use Rattle.std.proofs.Common.{subst}
use Rattle.mc_guests.specs.Asks.{MayAsk, NamesKey}
use Rattle.mc_guests.specs.Guests.{RowGuest}
use Rattle.mc_guests.proofs.metered.Metered.asked_bytes.Goals as goal

pub returns : goal.returns
returns g c =
    subst (λ (w : RowGuest). MayAsk g.S.Steps c.args.now (NamesKey w.guest.session) c.args.store.now c.next_length.new.store)
    c.self.view_is c.next_length.ensures.asks
