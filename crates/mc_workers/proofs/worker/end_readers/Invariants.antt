use Rattle.std.proofs.Common.{◌≡◌}
use Rattle.mc_workers.specs.Room.{EndsReaders}
use Rattle.mc_workers.proofs.worker.end_readers.Given as goal

abbrev pub invariant-loop : goal.invariant-loop
invariant-loop g l = EndsReaders l.counter l.fn.guests l.guests × (g.Q.Links.coming l.links ≡ g.Q.Links.coming l.fn.links)
