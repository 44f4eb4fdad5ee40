use Rattle.mc_session.proofs.ExchangeLemmas.{wrote_nothing, goes_front, goes_kept}
use Rattle.mc_session.proofs.rounds.write_out.Goals as goal
use Rattle.mc_session.proofs.rounds.write_out.Goals.{in-Ok, in-Err+else-ne}

pub loop-init : goal.loop-init
loop-init g c = (wrote_nothing c.args.endpoint.now c.args.store.now (g.W.Write.contents c.args.writer.now), λ idle. idle)

pub loop-preserved : goal.loop-preserved
loop-preserved g c =
    elim c.match-write.branch [
      | in-Ok w ↦ goes_front w.in-Ok.written w.endpoint-is w.store-is c.loop.invariant w.wrote.ensures.sends w.wrote.ensures.idle c.output-in-loop.ensures w.in-Ok.ensures.bytes
      | in-Err+else-ne w ↦ goes_kept w.endpoint-is w.store-is c.loop.invariant w.in-Err.ensures.bytes
    ]
