use Rattle.mc_run.specs.Clients.{caller_of}
use Rattle.mc_run.proofs.threads.log_to_end.Given as goal

abbrev pub ghosts-write_log : goal.ghosts-write_log
ghosts-write_log g a = record { caller = caller_of a.client }
