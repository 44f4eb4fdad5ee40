use Rattle.std.proofs.Common.{◌≡◌, ◌++◌}
use Rattle.mc_sockets.specs.Streams.{AreInterrupted}
use Rattle.mc_sockets.specs.declared.stream.NoBytes.TheVariants.{Interrupted}
use Rattle.mc_sockets.specs.declared.stream.Sent.TheVariants.{Hindered}
use Rattle.mc_sockets.proofs.stream.send_again.Given as goal

abbrev pub invariant-loop-interruption : goal.invariant-loop-interruption
invariant-loop-interruption g l =
    AreInterrupted (λ old answer new. g.S.Stream.sends old (l.first ++ (l.second ++ l.third)) answer new) (Hindered Interrupted) l._interruption l.fn.stream l.stream
    × (g.S.Stream.flow l.stream ≡ g.S.Stream.flow l.fn.stream)
