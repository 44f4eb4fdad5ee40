use Rattle.std.proofs.Common.{refl, ◌∙◌}
use Rattle.mc_time.specs.Chains.{none_yet}
use Rattle.mc_sockets.proofs.StreamLemmas.{read_interrupted, moves_nothing_in}
use Rattle.mc_sockets.proofs.stream.receive_again.Goals as goal

pub loop-interruption-init : goal.loop-interruption-init
loop-interruption-init g c = (none_yet, refl)

pub loop-interruption-preserved : goal.loop-interruption-preserved
loop-interruption-preserved g c =
    let is = c.is_interrupted.ensures.0 c.if-not-is_interrupted.false in (
      read_interrupted g.S.Stream.receives c.loop-interruption._interruption c.args.stream.now c.loop-interruption.stream c.receive-answer.new.self
          c.receive-answer.new.piece c.receive-answer.result is c.loop-interruption.invariant.0 c.receive-answer.ensures.answers,
      moves_nothing_in _ _ _ _ is c.receive-answer.ensures.moves ∙ c.loop-interruption.invariant.1,
    )
