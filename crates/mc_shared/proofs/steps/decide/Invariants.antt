use Rattle.mc_shared.proofs.Words.{start_of, decided, operation_of, still_of, surplus_of}
use Rattle.mc_shared.proofs.steps.decide.Given as goal

abbrev pub ghosts-free_as : goal.ghosts-free_as
ghosts-free_as g a =
    let began = start_of g.K.KeyHash.hash_of a.board.now.shared.key.value in
    let decision = a._decision.now in
    record { then = decided began (operation_of decision) (still_of decision) (surplus_of began decision) }
