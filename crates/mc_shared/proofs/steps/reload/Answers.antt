use Rattle.mc_shared.proofs.Words.{rules, arith, start_of}
use Rattle.mc_shared.proofs.StepsKept.{reloads}
use Rattle.mc_shared.proofs.steps.reload.Goals as goal

pub load-requires : goal.load-requires
load-requires g c =
    (search rules, (let w = c.requires.fit.bays in omega (arith, w)), reloads (start_of g.K.KeyHash.hash_of c.args.board.now.shared.key.value) _ _ 0 c.args.seat.now.me)
