use Rattle.mc_guests.specs.Retries.{LooksAt}
use Rattle.mc_guests.proofs.guests.Guests.let_on_others.Given as goal

abbrev pub invariant-loop : goal.invariant-loop
invariant-loop g l = LooksAt l.counter l.fn.self l.self
