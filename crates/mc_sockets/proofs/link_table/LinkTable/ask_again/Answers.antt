use Rattle.mc_sockets.proofs.SeatLemmas.{made_none, made_more}
use Rattle.mc_sockets.proofs.link_table.LinkTable.ask_again.Goals as goal

pub loop-at-init : goal.loop-at-init
loop-at-init g c = made_none _ _

pub loop-at-preserved : goal.loop-at-preserved
loop-at-preserved g c = made_more _ _ _ _ _ c.loop-at.invariant c.ask_again_at.ensures
