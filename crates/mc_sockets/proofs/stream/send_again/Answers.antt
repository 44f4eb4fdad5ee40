use Rattle.std.proofs.Common.{refl, ◌∙◌}
use Rattle.mc_time.specs.Chains.{none_yet}
use Rattle.mc_sockets.proofs.StreamLemmas.{write_interrupted, moves_nothing_out}
use Rattle.mc_sockets.proofs.stream.send_again.Goals as goal

pub loop-interruption-init : goal.loop-interruption-init
loop-interruption-init g c = (none_yet, refl)

pub loop-interruption-preserved : goal.loop-interruption-preserved
loop-interruption-preserved g c =
    let is = c.is_interrupted.ensures.0 c.if-not-is_interrupted.false in (
      write_interrupted g.S.Stream.sends _ c.loop-interruption._interruption c.args.stream.now c.loop-interruption.stream c.send-answer.new.self
          c.send-answer.result is c.loop-interruption.invariant.0 c.send-answer.ensures.answers,
      moves_nothing_out _ _ _ _ is c.send-answer.ensures.moves ∙ c.loop-interruption.invariant.1,
    )
