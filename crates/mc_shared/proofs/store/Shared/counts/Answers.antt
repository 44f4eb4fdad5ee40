use Rattle.mc_shared.proofs.Words.{◌≡◌, ◌*◌, ◌/◌, ℕ, sym, ap, subst, start_of, AreKeyCounts}
use Rattle.mc_shared.proofs.Held.{reads_shelf, counts_shelf, stays_held}
use Rattle.mc_shared.proofs.store.Shared.counts.Goals as goal

pub count_words-requires : goal.count_words-requires
count_words-requires g c =
    let board = c.self.inside.board.shared in
    let inv = c.self.invariant in
    let count = sym (ap (λ s. s.shelves) inv.1) in
    let may = reads_shelf g.K.KeyHash.hash_of board.table_id board.key.value c.args.self.now c.self.view_is inv.0 c.args.seat.now c.args.at c.self.inside.settings.shelves
    c.requires.0 count c.requires.1 in
    record { seat = may.0; shelves = count; step = subst (λ (s : ℕ). 4096 / s * s ≡ 4096) (sym count) inv.0.divides; inside = may.1; may = may.2 }

pub returns-clause-counts : goal.returns-clause-counts
returns-clause-counts g c shelf holds =
    let board = c.self.inside.board.shared in
    let keys = subst (λ (s : ℕ). AreKeyCounts (start_of g.K.KeyHash.hash_of board.key.value) c.args.seat.now.me.0 s c.args.at c.count_words.result)
    (sym (ap (λ s. s.shelves) c.self.invariant.1)) c.count_words.ensures.keys in (
      stays_held g.K.KeyHash.hash_of c.args.self.now c.args.seat.now c.count_words.new.seat c.args.at shelf c.count_words.ensures.seat c.count_words.ensures.same holds,
      counts_shelf g.K.KeyHash.hash_of board.table_id board.key.value c.args.self.now c.self.view_is c.self.invariant.0 c.args.seat.now c.args.at shelf c.count_words.result holds keys,
    )
