use Rattle.mc_guests.specs.Arrivals.{seen_by}
use Rattle.mc_workers.specs.Tending.{GoesFurther}
use Rattle.mc_workers.proofs.WorksLemmas.{WorksSinceTo}
use Rattle.mc_workers.proofs.worker.Worker.work.Given as goal

abbrev pub invariant-loop : goal.invariant-loop
invariant-loop g l =
    GoesFurther (g.C.Clock.may_give l.fn.self.clock.now)
    (record { began = l.fn.shared.began; table = l.fn.caller.table; past = l.fn.caller.past }) l.counting
    × WorksSinceTo g.L.LeavingLink.leaves g.K.KeyHash.hash_of (g.C.Clock.may_give l.fn.self.clock.now) (g.C.RereadClock.may_follow l.fn.self.clock.now) l.fn.self.first l.fn.self.share l.fn.shared.began l.fn.caller
    (record { asking = l.counting; books = l.guests; door = l.door; end = l.end; turn = l.turn; moment = l.before })
    (seen_by g.L.Link.shown (g.Q.Links.coming l.fn.links)) (seen_by g.L.Link.shown (g.Q.Links.coming l.links))
