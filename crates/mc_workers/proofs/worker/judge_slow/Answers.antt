use Rattle.std.proofs.Common.{◌≡◌, refl, ◌∙◌, arith}
use Rattle.mc_time.specs.Chains.{none_yet}
use Rattle.mc_workers.proofs.RoomLemmas.{judged_more, judged_none, judged_all}
use Rattle.mc_workers.proofs.worker.judge_slow.Goals as goal

pub loop-init : goal.loop-init
loop-init g c = (none_yet, refl)

pub loop-preserved : goal.loop-preserved
loop-preserved g c = (
  judged_more c.loop.counter c.in-Some.judged c.args.guests.now c.loop.guests c.judge_slowest.new.self c.loop.invariant.0 c.in-Some.ensures.judges c.in-Some.ensures.rest,
  c.carry_out.ensures ∙ c.loop.invariant.1,
)

pub returns-in-None-clause-judges : goal.returns-in-None-clause-judges
returns-in-None-clause-judges g c =
    judged_none c.args.most c.loop.counter c.args.guests.now c.loop.guests c.judge_slowest.new.self c.loop-test.true c.loop.invariant.0 c.in-None.ensures.judges c.in-None.ensures.rest

pub returns-clause-judges : goal.returns-clause-judges
returns-clause-judges g c =
    let all : c.loop.counter ≡ c.args.most = omega (arith, c.loop.auto.counter-end, c.loop-test.false) in
    judged_all c.args.most c.loop.counter c.args.guests.now c.loop.guests all c.loop.invariant.0
