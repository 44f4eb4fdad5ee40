use Rattle.std.proofs.Common.{◌∙◌}
use Rattle.mc_sockets.proofs.SeatLemmas.{count_of, looked_none, looked_more, looked_all}
use Rattle.mc_sockets.proofs.link_table.LinkTable.look_in_turn.Goals as goal

pub loop-one-init : goal.loop-one-init
loop-one-init g c = looked_none _ _ _ _ _ _ _ _ c.due-one-end.new.self c.due-one-end.ensures.noted

pub loop-one-preserved : goal.loop-one-preserved
loop-one-preserved g c =
    looked_more g.F.ReadinessCell.known g.R.Rests.sends c.args.patrol c.args.before c.args.now c.args.watch.now c.args.self.now c.args.rests.now
    _ _ _ _ _ _ _ c.loop-one.invariant c.look_at_next.ensures.looks c.look_at_next.ensures.same

pub returns : goal.returns
returns g c =
    looked_all _ _ _ _ _ _ _ _ _ _ _ _ c.loop-one.invariant
    (count_of _ _ _ _ _ _ c.loop-one-test.false c.loop-one.auto._one-end c.due-one-end.ensures.due
    (c.len.ensures ∙ c.args.self.now.places.ok.0))
