use Rattle.mc_run.specs.Clients.{caller_of}
use Rattle.mc_run.proofs.threads.run_own.Given as goal

abbrev pub ghosts-answer_scrapes : goal.ghosts-answer_scrapes
ghosts-answer_scrapes g a = record { caller = caller_of a.client }
