use Rattle.std.proofs.Common.{◌≡◌, ◌∷◌, rules}
use Rattle.std.specs.Slice.Iter.{iter_rest}
use Rattle.mc_sockets.proofs.SeatLemmas.{heard_none, heard_next, heard_all}
use Rattle.mc_sockets.proofs.link_table.LinkTable.hear_all.Goals as goal

pub loop-event-init : goal.loop-event-init
loop-event-init g c = heard_none _ _ _ _ _ (search rules)

pub loop-event-preserved : goal.loop-event-preserved
loop-event-preserved g c =
    let split : iter_rest c.loop-event.event-iterator ≡ c.in-Some.event.now ∷ iter_rest c.next.new.self = search rules in
    heard_next _ _ _ _ _ _ _ _ _ _ _ split c.loop-event.invariant c.hear.ensures

pub returns-clause-heard : goal.returns-clause-heard
returns-clause-heard g c = heard_all _ _ _ _ _ _ _ c.in-None.ensures.steps.0 c.loop-event.invariant
