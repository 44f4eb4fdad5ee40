use Rattle.std.proofs.Common.{◌≡◌, take, drop}
use Rattle.mc_guests.specs.Asks.{MakesRound}
use Rattle.mc_guests.specs.Budgets.{RecountsAll}
use Rattle.mc_guests.specs.Turns.{HaveTurns}
use Rattle.mc_guests.proofs.rounds.round_within.Given as goal

abbrev pub invariant-loop-guest : goal.invariant-loop-guest
invariant-loop-guest g l =
    MakesRound g.S.Steps l.fn.now l.fn.store l.store
    × HaveTurns g.S.Steps l.fn.now (take l.guest-index l.fn.guests) (take l.guest-index l.guests) l.fn.store l.store l.fn.budget l.budget
    × (drop l.guest-index l.guests ≡ drop l.guest-index l.fn.guests)
    × RecountsAll l.fn.guests l.guests l.fn.budget l.budget
