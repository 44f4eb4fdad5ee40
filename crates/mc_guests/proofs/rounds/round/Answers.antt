use Rattle.std.proofs.Common.{sym, subst, refl, ◌<◌}
use Rattle.mc_guests.specs.Visits.{VisitsOnce}
use Rattle.mc_guests.specs.Guests.{GuestState}
use Rattle.mc_guests.proofs.RoundLemmas.{round_more}
use Rattle.mc_guests.proofs.rounds.round.Goals as goal

pub loop-guest-init : goal.loop-guest-init
loop-guest-init g c = ((refl, refl), refl)

pub loop-guest-preserved : goal.loop-guest-preserved
loop-guest-preserved g c =
    let loop = c.loop-guest in
    let inside = subst (λ n. loop.guest-index < n) (sym loop.auto.guests) c.loop-guest-test.true in
    let once = VisitsOnce g.S.Steps c.args.now in
    round_more once c.args.guests.now loop.guests loop.guest-index c.guest-item.result c.visit.new.self
    c.args.store.now loop.store c.visit.new.store loop.auto.guests inside c.guest-item.is loop.invariant.0 loop.invariant.1
    (subst (λ (x : GuestState). once loop.store (x, c.visit.new.self) c.visit.new.store)
    (sym c.guest-item.is) (c.visit.result, c.visit.ensures))
