use Rattle.std.proofs.Common.{◌<◌}
use Rattle.mc_workers.specs.Tending.{Tidied}
use Rattle.mc_workers.proofs.tending.Tending.tidy_from.Given as goal

abbrev pub invariant-loop : goal.invariant-loop
invariant-loop g l =
    Tidied g.K.KeyHash.hash_of l.now l.counter l.shelf l.next l.fn.self l.self
    × (l.next < l.self.began.settings.shelves)
