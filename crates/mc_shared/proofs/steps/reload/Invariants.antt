use Rattle.mc_shared.proofs.Words.{start_of}
use Rattle.mc_shared.proofs.StepsKept.{reloaded}
use Rattle.mc_shared.proofs.steps.reload.Given as goal

abbrev pub ghosts-load : goal.ghosts-load
ghosts-load g a = record { then = reloaded (start_of g.K.KeyHash.hash_of a.self.now.key.value) }
