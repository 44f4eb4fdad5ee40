use Rattle.mc_guests.proofs.PlaceLemmas.{swapped_same}
use Rattle.mc_guests.proofs.row.GuestRow.swap.Goals as goal

pub returns-then-one-other : goal.returns-then-one-other
returns-then-one-other g c = swapped_same c.args.one c.args.other c.args.self.now c.if-one-other.true
