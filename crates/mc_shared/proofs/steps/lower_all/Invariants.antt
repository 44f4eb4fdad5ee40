use Rattle.mc_shared.proofs.Words.{lowered}
use Rattle.mc_shared.proofs.steps.lower_all.Given as goal

abbrev pub ghosts-fetch_sub : goal.ghosts-fetch_sub
ghosts-fetch_sub g a = record { then = lowered }
