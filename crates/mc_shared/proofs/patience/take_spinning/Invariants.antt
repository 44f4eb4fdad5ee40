use Rattle.mc_shared.proofs.Words.{◌≡◌}
use Rattle.mc_shared.proofs.patience.take_spinning.Given as goal

abbrev pub invariant-loop-look : goal.invariant-loop-look
invariant-loop-look g l = (l.seat.table_id ≡ l.initial.seat.table_id) × (l.seat.id ≡ l.initial.seat.id) × (l.seat.me ≡ l.initial.seat.me)
