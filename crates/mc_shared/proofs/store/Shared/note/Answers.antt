use Rattle.mc_shared.proofs.Words.{rules, arith, start_of}
use Rattle.mc_shared.proofs.Held.{new_rests}
use Rattle.mc_shared.proofs.StepsKept.{splits_seat}
use Rattle.mc_shared.proofs.store.Shared.note.Goals as goal

pub split_seat-seat-requires : goal.split_seat-seat-requires
split_seat-seat-requires g c =
    (search rules, (let w = c.self.invariant.0.bays in omega (arith, w)), splits_seat (start_of g.K.KeyHash.hash_of c.self.inside.board.shared.key.value) _ _ c.giver.invariant.2)

pub invariant_of-result : goal.invariant_of-result
invariant_of-result g c = new_rests _ c.giver.inside.seat.me.0 c.split_seat-seat.ensures.4
