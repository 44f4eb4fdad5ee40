use Rattle.std.proofs.Common.{◌≡◌}
use Rattle.mc_run.proofs.client.StoreClient.tables.Given as goal

abbrev pub invariant-loop-shelf : goal.invariant-loop-shelf
invariant-loop-shelf g l = l.self ≡ l.fn.self
