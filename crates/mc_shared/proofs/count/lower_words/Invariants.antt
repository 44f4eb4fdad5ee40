use Rattle.mc_shared.proofs.Words.{◌≡◌, ◌-◌, ◌≤◌, slice_index, spread, loaded}
use Rattle.mc_shared.proofs.count.lower_words.Given as goal

abbrev pub invariant-loop-number : goal.invariant-loop-number
invariant-loop-number g l =
    (l.seat.table_id ≡ l.initial.seat.table_id) × (l.seat.id ≡ l.initial.seat.id) × (l.number ≤ 4096)
    × (l.seat.me ≡ loaded l.initial.seat.me (spread l.fn.shelves (λ n. slice_index l.fn.before n - slice_index l.fn.after n) l.number (4096 - l.number)))
