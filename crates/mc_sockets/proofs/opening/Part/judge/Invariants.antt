use Rattle.mc_sockets.specs.declared.opening.Opening.TheVariants.{Open}
use Rattle.mc_sockets.proofs.OpeningLemmas.{Reached}
use Rattle.mc_sockets.proofs.opening.Part.judge.Given as goal

abbrev pub invariant-loop-at : goal.invariant-loop-at
invariant-loop-at l = Reached l.fn.self l.bytes (Open l.part) l.at
