use Rattle.std.proofs.Common.{ap, ◌∙◌}
use Rattle.mc_session.specs.Turns.{closed}
use Rattle.mc_parse.specs.Peeks.{unit_of}
use Rattle.mc_parse.proofs.UnitLemmas.{same_spelling}
use Rattle.mc_session.proofs.StateLemmas.{seen}
use Rattle.mc_session.proofs.TurnLemmas.{decides_next, takes_told, none_found, may_go_on, tells_next}
use Rattle.mc_session.proofs.session.SessionOf.turn.Goals as goal

pub go_on-requires : goal.go_on-requires
go_on-requires g c =
    may_go_on g.S.Steps c.args.now same_spelling (seen c.self.inside.feed c.self.inside.taken (g.O.Outgoing.bytes c.self.inside.out) c.self.inside.is_open) c.args.store.now c.answer.new.store
    (unit_of c.peek_after.result) c.peek_after.ensures.found c.self.invariant c.if-not-self.false
    c.in-Ok-Some.next (g.O.Outgoing.bytes c.answer.new.out)
    (tells_next g.S.Steps c.args.now
    (unit_of c.peek_after.result) c.args.store.now c.answer.new.store (g.O.Outgoing.bytes c.self.inside.out) (g.O.Outgoing.bytes c.answer.new.out) c.in-Ok-Some.field-0 c.in-Ok-Some.next
    c.in-Ok-Some.field-0-is c.in-Ok-Some.ensures.some)

pub returns-in-Ok-Some-clause-did : goal.returns-in-Ok-Some-clause-did
returns-in-Ok-Some-clause-did g c = λ _.
    rw (← c.self.view_is)
    (takes_told g.S.Steps c.args.now same_spelling (seen c.self.inside.feed c.self.inside.taken (g.O.Outgoing.bytes c.self.inside.out) c.self.inside.is_open) c.args.store.now c.answer.new.store
    (unit_of c.peek_after.result) c.peek_after.ensures.found c.self.invariant c.if-not-self.false
    c.in-Ok-Some.next (g.O.Outgoing.bytes c.answer.new.out)
    (tells_next g.S.Steps c.args.now
    (unit_of c.peek_after.result) c.args.store.now c.answer.new.store (g.O.Outgoing.bytes c.self.inside.out) (g.O.Outgoing.bytes c.answer.new.out) c.in-Ok-Some.field-0 c.in-Ok-Some.next
    c.in-Ok-Some.field-0-is c.in-Ok-Some.ensures.some)
    c.go_on.new.self c.go_on.ensures)

pub returns-in-Err-clause-due : goal.returns-in-Err-clause-due
returns-in-Err-clause-due g c =
    rw (← c.self.view_is)
    (c.if-not-self.false, λ none. c.in-Err.ensures.due (none_found c.self.inside.feed c.self.inside.taken (unit_of c.peek_after.result) c.peek_after.ensures.found none))

pub returns-in-Err-clause-decided : goal.returns-in-Err-clause-decided
returns-in-Err-clause-decided g c = λ decided.
    rw (← c.self.view_is)
    (decides_next g.S.Steps c.args.now same_spelling (seen c.self.inside.feed c.self.inside.taken (g.O.Outgoing.bytes c.self.inside.out) c.self.inside.is_open) c.args.store.now c.answer.new.store
    (unit_of c.peek_after.result) c.peek_after.ensures.found c.self.invariant c.if-not-self.false
    (c.in-Err.ensures.decided decided))

pub returns-in-Err-clause-err : goal.returns-in-Err-clause-err
returns-in-Err-clause-err g c =
    let kept = ap (λ (out : g.row.O.Denot). closed (seen c.self.inside.feed c.self.inside.taken (g.O.Outgoing.bytes out) c.self.inside.is_open)) c.in-Err.ensures.err in
    c.close.ensures ∙ kept ∙ ap closed c.self.view_is
