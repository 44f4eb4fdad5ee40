use Rattle.mc_guests.proofs.RetryLemmas.{tries}
use Rattle.mc_guests.proofs.guests.Guests.try_again.Goals as goal

pub returns : goal.returns
returns g c = tries c.args.at c.args.self.now c.set_line.new.self c.wake_at.new.self c.requires c.set_line.ensures c.wake_at.ensures.asleep c.wake_at.ensures.awake
