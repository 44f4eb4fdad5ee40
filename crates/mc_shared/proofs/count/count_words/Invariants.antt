use Rattle.mc_shared.proofs.Words.{◌≡◌, ◌≤◌, ◌/◌, start_of, counted}
use Rattle.mc_shared.proofs.CountLemmas.{ReadsRows}
use Rattle.mc_shared.proofs.count.count_words.Given as goal

abbrev pub invariant-loop-row : goal.invariant-loop-row
invariant-loop-row g l =
    (l.seat.table_id ≡ l.initial.seat.table_id) × (l.seat.id ≡ l.initial.seat.id) × (l.seat.me ≡ l.initial.seat.me) × (l.row ≤ 4096 / l.fn.step)
    × ReadsRows (start_of g.K.KeyHash.hash_of l.fn.board.shared.key.value) l.initial.seat.me.0 l.fn.step l.fn.at l.row l.counts

abbrev pub ghosts-load : goal.ghosts-load
ghosts-load g a = record { then = counted (start_of g.K.KeyHash.hash_of a.self.now.key.value) }
