use Rattle.std.proofs.Common.{◌≡◌}
use Rattle.mc_workers.specs.Tending.{GoesFurther}
use Rattle.mc_workers.proofs.WorksLemmas.{RoundsTo}
use Rattle.mc_workers.proofs.worker.make_rounds.Given as goal

abbrev pub invariant-loop : goal.invariant-loop
invariant-loop g l =
    GoesFurther (λ moment. moment ≡ l.fn.now) l.fn.counting l.counting
    × (rounds : RoundsTo g.L.LeavingLink.leaves g.K.KeyHash.hash_of l.fn.now (l.fn.counting, l.fn.guests, l.fn.end) (l.counting, l.guests, l.end))
    × (rounds.0.left ≡ l.left)
