use Rattle.mc_shared.proofs.Words.{start_of, number_of, sought}
use Rattle.mc_shared.proofs.store.Shared.absent_hashed.Given as goal

abbrev pub ghosts-load_as : goal.ghosts-load_as
ghosts-load_as g a =
    let began = start_of g.K.KeyHash.hash_of a.board.now.shared.key.value in
    record { then = sought began a._key.now a._now (number_of began.hash_of a._key.now) }
