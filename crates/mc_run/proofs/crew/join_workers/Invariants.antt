use Rattle.mc_run.proofs.MeetLemmas.{IsJoining}
use Rattle.mc_run.proofs.crew.join_workers.Given as goal

abbrev pub invariant-loop-thread : goal.invariant-loop-thread
invariant-loop-thread g l =
    IsJoining (g.S.Clock.may_give l.fn.system) l.fn.system l.fn.crew.workers.items l.thread-iterator.rest.items l.fn.crew.client l.client
