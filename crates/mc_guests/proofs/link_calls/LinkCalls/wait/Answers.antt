use Rattle.mc_guests.proofs.DoorLemmas.{comes_nothing, comes_nothing_then}
use Rattle.mc_guests.proofs.link_calls.LinkCalls.wait.Goals as goal

pub returns-then-rest_if-clause-nothing : goal.returns-then-rest_if-clause-nothing
returns-then-rest_if-clause-nothing g c =
    comes_nothing_then c.args.is_quiet c.rest_if.result c.args.self.now c.wake_named.new.self c.rest_if.new.self c.args.guests.now c.wake_named.new.guests
    c.wake_named.ensures.wakes c.rest_if.ensures.rests c.rest_if.ensures.notes c.wake_named-then-rest_if.new.self c.wake_named-then-rest_if.new.guests c.if-rest_if.true c.wake_named-then-rest_if.ensures.wakes

pub returns-else-rest_if-clause-nothing : goal.returns-else-rest_if-clause-nothing
returns-else-rest_if-clause-nothing g c =
    comes_nothing c.args.is_quiet c.rest_if.result c.args.self.now c.wake_named.new.self c.rest_if.new.self c.args.guests.now c.wake_named.new.guests
    c.wake_named.ensures.wakes c.rest_if.ensures.rests c.rest_if.ensures.notes c.if-rest_if.false
