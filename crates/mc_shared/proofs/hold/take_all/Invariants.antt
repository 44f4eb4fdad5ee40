use Rattle.mc_shared.proofs.Words.{◌≡◌, ◌≤◌, ◌-◌, vec_len, vec_capacity, holds_all}
use Rattle.mc_shared.proofs.hold.take_all.Given as goal

abbrev pub invariant-loop-held : goal.invariant-loop-held
invariant-loop-held g l = (l.seat.table_id ≡ l.initial.seat.table_id) × (l.seat.id ≡ l.initial.seat.id) × (vec_len l.held ≤ l.fn.count)
    × (l.fn.count ≤ vec_capacity l.held) × (l.seat.me ≡ holds_all l.initial.seat.me.0.past l.held.items)

abbrev pub decreases-loop-held : goal.decreases-loop-held
decreases-loop-held g l = l.fn.count - vec_len l.held
