use Rattle.std.proofs.Common.{Ok, ap, arith}
use Rattle.mc_session.specs.declared.session.Turn.{Turn}
use Rattle.mc_session.proofs.ExchangeLemmas.{at_most, then_wrote, then_turned, then_read, short_turn, short_read}
use Rattle.mc_session.proofs.rounds.round.Goals as goal

pub returns-in_err-write_much-clause-goes : goal.returns-in_err-write_much-clause-goes
returns-in_err-write_much-clause-goes g c = λ _. record { goes = λ most first so_far. at_most (omega arith) (then_wrote c.write_much.ensures.wrote so_far) }

pub returns-in_err-write_out-in-Ok-Idle-clause-goes : goal.returns-in_err-write_out-in-Ok-Idle-clause-goes
returns-in_err-write_out-in-Ok-Idle-clause-goes g c = λ _. record {
  goes = λ most first so_far.
      then_wrote c.write_out.ensures.wrote (then_turned c.now.result c.now.ensures c.in_ok-write_much.ensures.ok c.in-Ok-Idle.ensures.ok (then_wrote c.write_much.ensures.wrote so_far));
}

pub returns-in-Ok-Did-clause-goes : goal.returns-in-Ok-Did-clause-goes
returns-in-Ok-Did-clause-goes g c =
    λ _. record { goes = λ most first so_far. then_turned c.now.result c.now.ensures c.in_ok-write_much.ensures.ok c.in-Ok-Did.ensures.ok (then_wrote c.write_much.ensures.wrote so_far) }

pub returns-in-Ok-Closed-clause-goes : goal.returns-in-Ok-Closed-clause-goes
returns-in-Ok-Closed-clause-goes g c =
    λ _. record { goes = λ most first so_far. then_turned c.now.result c.now.ensures c.in_ok-write_much.ensures.ok c.in-Ok-Closed.ensures.ok (then_wrote c.write_much.ensures.wrote so_far) }

pub returns-in_ok-write_out-in-Ok-Idle-clause-goes : goal.returns-in_ok-write_out-in-Ok-Idle-clause-goes
returns-in_ok-write_out-in-Ok-Idle-clause-goes g c = λ other. record {
  goes = λ most first so_far.
      then_read (c.write_out.ensures.idle (c.in-Ok-Idle.ensures.idle (ap (λ (t : Turn). Ok t) c.in-Ok-Idle.field-0-is))) c.in_ok-write_out-in-Ok-Idle.ensures.ok (c.read_piece.ensures.reads other)
      (then_wrote c.write_out.ensures.wrote (then_turned c.now.result c.now.ensures c.in_ok-write_much.ensures.ok c.in-Ok-Idle.ensures.ok (then_wrote c.write_much.ensures.wrote so_far)));
}

pub returns-in_ok-write_out-in-Ok-Idle-clause-memory : goal.returns-in_ok-write_out-in-Ok-Idle-clause-memory
returns-in_ok-write_out-in-Ok-Idle-clause-memory g c = λ is. record {
  goes = λ most first few so_far.
      short_read (c.write_out.ensures.idle (c.in-Ok-Idle.ensures.idle (ap (λ (t : Turn). Ok t) c.in-Ok-Idle.field-0-is))) (c.read_piece.ensures.memory is) (omega (arith, few))
      (then_wrote c.write_out.ensures.wrote (then_turned c.now.result c.now.ensures c.in_ok-write_much.ensures.ok c.in-Ok-Idle.ensures.ok (then_wrote c.write_much.ensures.wrote so_far)));
}

pub returns-in-Err-clause-memory : goal.returns-in-Err-clause-memory
returns-in-Err-clause-memory g c =
    λ _. record { goes = λ most first few so_far. short_turn c.now.result c.now.ensures c.in_ok-write_much.ensures.ok c.in-Err.ensures.err few (then_wrote c.write_much.ensures.wrote so_far) }
