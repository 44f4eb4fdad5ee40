use Rattle.mc_shared.proofs.Words.{◌≡◌, ◌≤◌, vec_len, holds_all}
use Rattle.mc_shared.proofs.hold.give_all.Given as goal

abbrev pub invariant-loop-shelf : goal.invariant-loop-shelf
invariant-loop-shelf g l = (l.seat.table_id ≡ l.initial.seat.table_id) × (l.seat.id ≡ l.initial.seat.id) × (vec_len l.held ≤ vec_len l.initial.held)
    × (l.seat.me ≡ holds_all l.initial.seat.me.0.past l.held.items)

abbrev pub decreases-loop-shelf : goal.decreases-loop-shelf
decreases-loop-shelf g l = vec_len l.held
