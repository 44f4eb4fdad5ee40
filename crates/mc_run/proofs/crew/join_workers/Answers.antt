use Rattle.mc_run.proofs.MeetLemmas.{joining_begins, joining_goes_on}
use Rattle.mc_run.proofs.crew.join_workers.Goals as goal

pub loop-thread-init : goal.loop-thread-init
loop-thread-init g c =
    let system = c.args.system.now in
    let is = c.into_iter-thread-iterator.ensures.into_iter_gives.0 in
    joining_begins (g.S.Clock.may_give system) system c.requires.0 c.requires.1 c.requires.2 c.args.crew _ is c.requires.3

pub loop-thread-preserved : goal.loop-thread-preserved
loop-thread-preserved g c =
    joining_goes_on (g.S.Clock.may_give) c.args.system.now c.args.crew.workers.items c.loop-thread.thread-iterator.rest.items c.next.new.self.rest.items c.in-Some.thread c.args.crew.client c.loop-thread.client
    c.join-caller.result c.in-Some.ensures.steps.0 c.loop-thread.invariant c.join-caller.ensures c.join.new.self c.join.ensures.joined c.join.ensures.agrees
