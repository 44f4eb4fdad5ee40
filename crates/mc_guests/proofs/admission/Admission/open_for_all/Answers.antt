use native.Mathlib.Omega.{arith}
use Rattle.std.proofs.Common.{◌≡◌, refl}
use Rattle.mc_time.specs.Chains.{none_yet}
use Rattle.mc_guests.proofs.ArrivalLemmas.{first_none}
use Rattle.mc_guests.proofs.DoorLemmas.{came_one_more, came_no_more, came_all}
use Rattle.mc_guests.proofs.admission.Admission.open_for_all.Goals as goal

pub loop-init : goal.loop-init
loop-init g c = (none_yet, first_none _, refl)

pub loop-preserved : goal.loop-preserved
loop-preserved g c =
    came_one_more _ c.loop.counter c.args.self.now c.loop.self c.open-goes_on.new.self c.args.guests.now c.loop.guests c.open-goes_on.new.guests
    c.args.end.now c.loop.end c.open-goes_on.new.end c.is_quiet-is_quiet.result c.open-goes_on.result c.gave_link.result _ _ _
    c.loop.invariant c.is_quiet-is_quiet.ensures c.open-goes_on.ensures c.gave_link.ensures (cc)

pub returns-then-not-gave_link : goal.returns-then-not-gave_link
returns-then-not-gave_link g c =
    came_no_more _ c.loop.counter c.args.self.now c.loop.self c.open-goes_on.new.self c.args.guests.now c.loop.guests c.open-goes_on.new.guests
    c.args.end.now c.loop.end c.open-goes_on.new.end c.is_quiet-is_quiet.result c.open-goes_on.result c.gave_link.result _ _ _
    c.loop-test.true c.loop.invariant c.is_quiet-is_quiet.ensures c.open-goes_on.ensures c.gave_link.ensures (cc)

pub returns : goal.returns
returns g c =
    let all : c.loop.counter ≡ 32 = omega (arith, c.loop.auto.counter-end, c.loop-test.false) in
    came_all _ c.loop.counter c.args.self.now c.loop.self c.args.guests.now c.loop.guests c.args.end.now c.loop.end _ _ all c.loop.invariant
