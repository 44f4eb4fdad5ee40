use Rattle.std.proofs.Common.{refl}
use Rattle.mc_workers.proofs.WorkLemmas.{at, goes_in_turn}
use Rattle.mc_workers.proofs.worker.tidy_in_turn.Goals as goal

pub returns-clause-further : goal.returns-clause-further
returns-clause-further g c = goes_in_turn (at c.args.now) g.K.KeyHash.hash_of _ c.args.now refl _ _ _ _ c.tidy.ensures
