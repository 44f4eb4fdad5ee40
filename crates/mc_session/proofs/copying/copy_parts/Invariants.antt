use Rattle.std.proofs.Common.{◌≡◌, ◌++◌, length}
use Rattle.mc_session.specs.Outputs.{IsBegun}
use Rattle.mc_session.proofs.copying.copy_parts.Given as goal

abbrev pub invariant-loop-parts : goal.invariant-loop-parts
invariant-loop-parts l =
    (l.queue.bytes ++ l.parts ≡ l.fn.queue.bytes ++ l.fn.parts)
    × IsBegun l.fn.queue.bytes l.queue.bytes

abbrev pub decreases-loop-parts : goal.decreases-loop-parts
decreases-loop-parts l = length l.parts
