use Rattle.mc_guests.specs.Retries.{TakesTurns}
use Rattle.mc_guests.proofs.guests.Guests.let_on_in_turn.Given as goal

abbrev pub invariant-loop : goal.invariant-loop
invariant-loop g l = TakesTurns l.counter l.fn.self l.self
