use Rattle.std.proofs.Common.{◌≡◌}
use Rattle.mc_sockets.specs.Dropping.{Drops}
use Rattle.mc_sockets.specs.declared.dropping.Drain.TheVariants.{Going}
use Rattle.mc_sockets.proofs.dropping.drop_input.Given as goal

abbrev pub invariant-loop-piece : goal.invariant-loop-piece
invariant-loop-piece g l =
    Drops g.S.Stream.receives l.before l.fn.stream l._piece l.dropped l.stream × (l.dropped.drain ≡ Going)
