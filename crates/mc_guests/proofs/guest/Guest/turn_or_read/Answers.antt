use Rattle.std.proofs.Common.{ap, Ok, inl, refl}
use Rattle.mc_session.specs.declared.session.Turn.{Turn}
use Rattle.mc_guests.proofs.VisitLemmas.{reads_does, refuses_turn}
use Rattle.mc_guests.proofs.guest.Guest.turn_or_read.Goals as goal

pub returns-in-Ok-Idle-clause-does : goal.returns-in-Ok-Idle-clause-does
returns-in-Ok-Idle-clause-does g c =
    let idle = c.in-Ok-Idle.ensures.idle (ap (λ (t : Turn). Ok t) c.in-Ok-Idle.field-0-is) in
    reads_does g.S.Steps c.args.now c.read_piece.result
    (g.L.Link.shown c.self.inside.link) c.self.inside.last c.turn.new.self c.self.inside.session c.args.self.now c.read_piece.new.self c.args.store.now
    c.turn.new.store idle.2 c.self.view_is idle.3 c.read_piece.ensures.reads

pub returns-in-Err-clause-does : goal.returns-in-Err-clause-does
returns-in-Err-clause-does g c =
    inl (refuses_turn g.S.Steps c.args.now c.in-Err.field-0.decided _ c.args.self.now _ c.args.store.now c.turn.new.store c.self.view_is c.requires c.in-Err.ensures.due c.in-Err.ensures.err refl
    c.in-Err.ensures.undecided c.in-Err.ensures.decided)
