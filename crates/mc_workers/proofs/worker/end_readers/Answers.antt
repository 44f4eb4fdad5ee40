use Rattle.std.proofs.Common.{◌≡◌, refl, ◌∙◌, arith}
use Rattle.mc_time.specs.Chains.{none_yet}
use Rattle.mc_workers.proofs.RoomLemmas.{ended_more, ended_none, ended_all}
use Rattle.mc_workers.proofs.worker.end_readers.Goals as goal

pub loop-init : goal.loop-init
loop-init g c = (none_yet, refl)

pub loop-preserved : goal.loop-preserved
loop-preserved g c = (
  ended_more c.loop.counter c.in-Some.number c.args.guests.now c.loop.guests c.end_slowest_reader.new.self c.loop.invariant.0 c.in-Some.ensures.over c.in-Some.ensures.ends c.in-Some.ensures.rest,
  c.end.ensures ∙ c.loop.invariant.1,
)

pub returns-in-None-clause-ends : goal.returns-in-None-clause-ends
returns-in-None-clause-ends g c =
    ended_none c.args.readers c.loop.counter c.args.guests.now c.loop.guests c.end_slowest_reader.new.self c.loop-test.true c.loop.invariant.0 c.in-None.ensures.over (c.in-None.ensures.none refl)

pub returns-clause-ends : goal.returns-clause-ends
returns-clause-ends g c =
    let all : c.loop.counter ≡ c.args.readers = omega (arith, c.loop.auto.counter-end, c.loop-test.false) in
    ended_all c.args.readers c.loop.counter c.args.guests.now c.loop.guests all c.loop.invariant.0
