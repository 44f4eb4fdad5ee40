use Rattle.std.proofs.Common.{◌≤◌, ◌+◌, ◌^◌, arith}
use Rattle.mc_session.proofs.ExchangeLemmas.{exchanges_nothing, at_most}
use Rattle.mc_session.proofs.rounds.serve_endpoint.Goals as goal

pub loop-turn-init : goal.loop-turn-init
loop-turn-init g c = (c.requires, exchanges_nothing _)

pub returns-in-Ok-true-clause-goes : goal.returns-in-Ok-true-clause-goes
returns-in-Ok-true-clause-goes g c = λ _.
    let few : c.loop-turn._turn + 1 ≤ 2 ^ 40 = omega (arith, c.loop-turn-test.true) in
    at_most few ((c.in-Ok-true.ensures.goes (λ is. cc)).goes c.loop-turn._turn _ c.loop-turn.invariant.1)

pub returns-in-Err-clause-goes : goal.returns-in-Err-clause-goes
returns-in-Err-clause-goes g c = λ other.
    let few : c.loop-turn._turn + 1 ≤ 2 ^ 40 = omega (arith, c.loop-turn-test.true) in
    at_most few ((c.in-Err.ensures.goes (λ is. other (cc))).goes c.loop-turn._turn _ c.loop-turn.invariant.1)

pub returns-in-Err-clause-memory : goal.returns-in-Err-clause-memory
returns-in-Err-clause-memory g c = λ is. (c.in-Err.ensures.memory (cc)).goes c.loop-turn._turn _ c.loop-turn-test.true c.loop-turn.invariant.1

pub returns-clause-goes : goal.returns-clause-goes
returns-clause-goes g c = λ _. at_most (omega (arith, c.loop-turn.auto._turn-end)) c.loop-turn.invariant.1
