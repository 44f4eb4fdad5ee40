use Rattle.mc_world.proofs.Words.{◌≤◌, ◌+◌, ℕ, List, take, sym, subst, arith, ◌∙◌, true, false, take_all, Told, ToldThrough, Event}
use Rattle.mc_world.proofs.WorldLemmas.{through_none, through_next, told_whole}
use Rattle.mc_world.proofs.world.World.run_through.Goals as goal
use Rattle.mc_world.proofs.world.World.run_through.Goals.{then-is_err, else-is_err}

pub loop-event-init : goal.loop-event-init
loop-event-init g c = (through_none c.args.self.now, omega arith)

pub loop-event-preserved : goal.loop-event-preserved
loop-event-preserved g c = let at = c.loop-event.event-index in let (told, few) = c.loop-event.invariant in
    let Holds : ℕ → Type 0 = λ n. ToldThrough g.K.KeyHash.hash_of n c.args.self.now (take (at + 1) c.args.events.now) c.happen.new.self × (n ≤ at + 1) in
    let next = through_next c.args.events.now at c.event-item.result c.happen.result c.event-item.is c.loop-event-test.true told c.happen.ensures.ok c.happen.ensures.err in elim c.if-is_err.branch [
      | then-is_err w ↦ subst Holds (sym w.refused-is) (next true (sym c.is_err.ensures.value ∙ w.if-is_err.true), omega (arith, few))
      | else-is_err w ↦ subst Holds (sym w.refused-is) (next false (sym c.is_err.ensures.value ∙ w.if-is_err.false), omega (arith, few))
    ]

pub returns-clause-none : goal.returns-clause-none
returns-clause-none g c none = let at = c.loop-event.event-index in
    subst (λ (es : List Event). Told g.K.KeyHash.hash_of c.args.self.now es c.loop-event.self) (take_all at c.args.events.now (omega (arith, c.loop-event-test.false)))
    (told_whole c.loop-event.invariant.0 none)
