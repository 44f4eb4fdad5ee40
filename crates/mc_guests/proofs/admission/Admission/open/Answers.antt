use Rattle.std.proofs.Common.{ap, ◌∙◌}
use Rattle.mc_guests.specs.Arrivals.{seen_by}
use Rattle.mc_guests.proofs.ArrivalLemmas.{first_still, next_comes, none_comes, no_more_come}
use Rattle.mc_guests.proofs.DoorLemmas.{fails, opens_link, opens_now, opens_more, opens_over}
use Rattle.mc_guests.proofs.admission.Admission.open.Goals as goal

pub returns-in-Link : goal.returns-in-Link
returns-in-Link g c =
    opens_link _ c.args.is_quiet c.args.self.now c.new-self.result c.next.new.self c.new-self.ensures c.let_in.new.self c.wake_named.new.self
    c.args.guests.now c.let_in.new.guests c.wake_named.new.guests c.args.end.now c.let_in.new.end _ _ c.in-Link.ensures.notes c.let_in.ensures.counts
    c.let_in.ensures.lets.0 c.let_in.ensures.lets.2 c.wake_named.ensures.wakes
    (λ arrival is. first_still _ _ _ _ (ap (seen_by _) c.wake_named.ensures.same)
    (next_comes _ _ _ c.in-Link.link c.in-Link.ensures.gives arrival (is ∙ c.let_in.ensures.lets.1)))

pub returns-in-Later : goal.returns-in-Later
returns-in-Later g c =
    opens_now _ c.args.is_quiet c.args.self.now c.new-self.result c.next.new.self c.new-self.ensures c.wait.new.self c.args.guests.now c.wait.new.guests
    c.args.end.now _ _ c.in-Later.ensures.notes c.wait.ensures.nothing
    (first_still _ _ _ _ (ap (seen_by _) c.wait.ensures.same) (none_comes _ _ _ c.in-Later.ensures.gives))

pub returns-in-Closed : goal.returns-in-Closed
returns-in-Closed g c =
    opens_over _ c.args.is_quiet c.args.self.now c.new-self.result c.next.new.self c.new-self.ensures c.args.guests.now c.args.end.now _ _
    c.in-Closed.ensures.notes (c.is_empty.ensures.0 c.if-is_empty.true) (no_more_come _ _ _ c.in-Closed.ensures.gives)

pub returns-in-Closed-2 : goal.returns-in-Closed-2
returns-in-Closed-2 g c =
    opens_more _ c.args.is_quiet c.args.self.now c.new-self.result c.next.new.self c.new-self.ensures c.wait-in-Closed-2.new.self c.args.guests.now
    c.wait-in-Closed-2.new.guests c.args.end.now _ _ c.in-Closed-2.ensures.notes (fails c.is_empty.result c.is_empty.ensures c.if-is_empty.false)
    c.wait-in-Closed-2.ensures.nothing
    (first_still _ _ _ _ (ap (seen_by _) c.wait-in-Closed-2.ensures.same) (no_more_come _ _ _ c.in-Closed-2.ensures.gives).0)
