use Rattle.std.proofs.Common.{◌≡◌, take, drop}
use Rattle.mc_guests.specs.Visits.{GoesRound}
use Rattle.mc_guests.proofs.rounds.round.Given as goal

abbrev pub invariant-loop-guest : goal.invariant-loop-guest
invariant-loop-guest g l =
    GoesRound g.S.Steps l.fn.now (take l.guest-index l.fn.guests) (take l.guest-index l.guests) l.fn.store l.store
    × (drop l.guest-index l.guests ≡ drop l.guest-index l.fn.guests)
