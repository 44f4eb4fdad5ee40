use Rattle.std.proofs.Common.{sym, subst, refl, ◌<◌, ◌+◌, ◌∙◌}
use Rattle.mc_guests.specs.Guests.{RowGuest}
use Rattle.mc_guests.specs.Turns.{HasTurn}
use Rattle.mc_time.specs.Chains.{none_yet, one_more}
use Rattle.mc_guests.proofs.BudgetLemmas.{recounts_nobody, recounts_more}
use Rattle.mc_guests.proofs.RoundLemmas.{round_more}
use Rattle.mc_guests.proofs.TurnLemmas.{has_turn, comes}
use Rattle.mc_guests.proofs.rounds.round_within.Goals as goal

pub loop-guest-init : goal.loop-guest-init
loop-guest-init g c = ((0, none_yet), (refl, refl), refl, recounts_nobody c.args.guests.now c.args.budget.now)

pub loop-guest-preserved : goal.loop-guest-preserved
loop-guest-preserved g c =
    let loop = c.loop-guest in
    let inside = subst (λ n. loop.guest-index < n) (sym loop.auto.guests) c.loop-guest-test.true in
    let same = ◌∙◌ {b = c.guest.inside.inner.value} c.deref_mut.ensures.value (c.guest.view_is ∙ sym c.guest-item.is) in
    let has = HasTurn g.S.Steps c.args.now in
    let turn = subst (λ (x : RowGuest). has (loop.store, loop.budget) (x, c.visit.new.self) (c.visit.new.store, c.visit.new.budget)) same
    (has_turn g.S.Steps c.args.now c.visit.result _ c.visit.new.self loop.store c.visit.new.store loop.budget c.visit.new.budget
    c.visit.ensures.some c.visit.ensures.none c.visit.ensures.held_back c.visit.ensures.waits c.visit.ensures.counts
    c.visit.ensures.covers) in
    let turns = round_more has c.args.guests.now loop.guests loop.guest-index c.guest-item.result c.visit.new.self
    (c.args.store.now, c.args.budget.now) (loop.store, loop.budget) (c.visit.new.store, c.visit.new.budget)
    loop.auto.guests inside c.guest-item.is loop.invariant.1 loop.invariant.2 turn in (
      (
        loop.invariant.0.0 + 1,
        one_more loop.invariant.0.1 (comes g.S.Steps c.args.now (loop.store, loop.budget)
            (c.visit.new.store, c.visit.new.budget) (c.guest-item.result, c.visit.new.self) turn),
      ),
      turns.0,
      turns.1,
      recounts_more c.args.guests.now loop.guests loop.guest-index c.guest-item.result c.visit.new.self c.args.budget.now loop.budget c.visit.new.budget
          loop.auto.guests inside c.guest-item.is loop.invariant.3 turn.counts,
    )
