use Rattle.std.proofs.Common.{refl, ◌∙◌}
use Rattle.mc_time.specs.Chains.{none_yet}
use Rattle.mc_guests.proofs.DoorLemmas.{named_more}
use Rattle.mc_guests.proofs.link_calls.LinkCalls.wake_named.Goals as goal

pub loop-init : goal.loop-init
loop-init g c = ((0, none_yet), c.requires, refl)

pub loop-preserved : goal.loop-preserved
loop-preserved g c =
    let more = named_more c.in-Some.number c.loop.counter c.args.self.now c.loop.self c.ready.new.self c.args.guests.now c.loop.guests c.wake.new.self
    c.in-Some.ensures.notes (c.loop.invariant.0, c.loop.invariant.1) c.wake.ensures in
    (more.0, more.1, c.in-Some.ensures.same ∙ c.loop.invariant.2)
