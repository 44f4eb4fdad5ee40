use Rattle.mc_shared.proofs.Words.{ap, sym}
use Rattle.mc_shared.proofs.Held.{alive_at, stays_held, takes_desk}
use Rattle.mc_shared.proofs.store.Shared.take_desk.Goals as goal

pub desk_at-requires-clause-seat : goal.desk_at-requires-clause-seat
desk_at-requires-clause-seat g c =
    let board = c.self.inside.board.shared in
    alive_at g.K.KeyHash.hash_of board.table_id board.key.value c.args.self.now c.self.view_is c.self.invariant.0 c.args.seat.now c.requires.0 c.requires.1 c.requires.2

pub returns-in-Ok-clause-ok : goal.returns-in-Ok-clause-ok
returns-in-Ok-clause-ok g c at shelf holds =
    let board = c.self.inside.board.shared in
    takes_desk g.K.KeyHash.hash_of board.table_id board.key.value c.args.self.now c.self.view_is c.self.invariant.0 c.args.seat.now c.desk_at.new.seat at
    c.self.inside.settings.shelves shelf c.in-Ok.desk.value (sym (ap (λ s. s.shelves) c.self.invariant.1)) c.desk_at.ensures.seat c.in-Ok.ensures.ok holds

pub returns-in-Err-clause-stays : goal.returns-in-Err-clause-stays
returns-in-Err-clause-stays g c at shelf holds =
    stays_held g.K.KeyHash.hash_of c.args.self.now c.args.seat.now c.desk_at.new.seat at shelf c.desk_at.ensures.seat c.in-Err.ensures.err.0 holds
