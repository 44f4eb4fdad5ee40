use Rattle.std.proofs.Common.{◌≡◌}
use Rattle.mc_sockets.specs.Streams.{AreInterrupted, into_some}
use Rattle.mc_sockets.specs.declared.stream.NoBytes.TheVariants.{Interrupted}
use Rattle.mc_sockets.specs.declared.stream.Received.TheVariants.{Hindered}
use Rattle.mc_sockets.proofs.stream.receive_again.Given as goal

abbrev pub invariant-loop-interruption : goal.invariant-loop-interruption
invariant-loop-interruption g l =
    AreInterrupted (into_some g.S.Stream.receives) (Hindered Interrupted) l._interruption l.fn.stream l.stream
    × (g.S.Stream.flow l.stream ≡ g.S.Stream.flow l.fn.stream)
