use Rattle.mc_shared.proofs.Words.{rules, arith, start_of, refl}
use Rattle.mc_shared.proofs.Held.{met_rests}
use Rattle.mc_shared.proofs.StepsKept.{joins_seats}
use Rattle.mc_shared.proofs.store.Shared.heed.Goals as goal

pub join_seat-requires : goal.join_seat-requires
join_seat-requires g c = (
  search rules,
  search rules,
  search rules,
  (let w = c.self.invariant.0.bays in omega (arith, w)),
  joins_seats (start_of g.K.KeyHash.hash_of c.self.inside.board.shared.key.value) _ _ _ _ c.note.invariant.1,
)

pub invariant_of-taker : goal.invariant_of-taker
invariant_of-taker g c = met_rests _ _ c.taker.inside.seat.me c.note.inside.seat.me.0 refl c.join_seat.ensures.2 c.taker.invariant
