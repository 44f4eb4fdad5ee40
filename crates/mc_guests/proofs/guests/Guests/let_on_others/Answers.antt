use Rattle.mc_time.specs.Chains.{none_yet, one_more}
use Rattle.mc_guests.proofs.guests.Guests.let_on_others.Goals as goal

pub loop-init : goal.loop-init
loop-init g c = none_yet

pub loop-preserved : goal.loop-preserved
loop-preserved g c = one_more c.loop.invariant c.look_at_first.ensures
