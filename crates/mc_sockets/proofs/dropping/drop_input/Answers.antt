use Rattle.std.proofs.Common.{refl, arith}
use Rattle.mc_time.specs.Chains.{none_yet}
use Rattle.mc_sockets.proofs.DroppingLemmas.{dropped_more, drop_stops}
use Rattle.mc_sockets.proofs.dropping.drop_input.Goals as goal

pub loop-piece-init : goal.loop-piece-init
loop-piece-init g c = (none_yet, refl)

pub returns-then-not-is_going : goal.returns-then-not-is_going
returns-then-not-is_going g c =
    drop_stops _ _ _ _ _ _
    (dropped_more g.S.Stream.receives c.args.before c.args.stream.now c.loop-piece._piece c.loop-piece.dropped c.after-dropped.result c.loop-piece.stream
    c.receive.new.self c.receive.result c.receive.new.piece c.loop-piece.invariant.0 c.loop-piece.invariant.1 c.receive.ensures.answers c.after-dropped.ensures)
    (λ going. grind (arith, c.is_going.ensures.1 going, c.if-not-is_going.true))

pub loop-piece-preserved : goal.loop-piece-preserved
loop-piece-preserved g c = (
  dropped_more g.S.Stream.receives c.args.before c.args.stream.now c.loop-piece._piece c.loop-piece.dropped c.after-dropped.result c.loop-piece.stream
      c.receive.new.self c.receive.result c.receive.new.piece c.loop-piece.invariant.0 c.loop-piece.invariant.1 c.receive.ensures.answers c.after-dropped.ensures,
  c.is_going.ensures.0 c.if-not-is_going.false,
)
