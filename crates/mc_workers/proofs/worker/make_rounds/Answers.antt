use Rattle.std.proofs.Common.{◌-◌, ℕ, arith, sym, ap, ◌∙◌}
use Rattle.mc_workers.proofs.WorkLemmas.{at, goes_both}
use Rattle.mc_workers.proofs.WorksLemmas.{one_round, further_round}
use Rattle.mc_workers.proofs.worker.make_rounds.Goals as goal

pub loop-init : goal.loop-init
loop-init g c =
    let rounds =
    one_round _ g.K.KeyHash.hash_of c.args.now (c.args.counting.now, c.args.guests.now, c.args.end.now) (c.make_round.new.counting, c.make_round.new.guests, c.make_round.new.end) _
    (c.saturating_sub-left.ensures ∙ ap (λ (n : ℕ). 256 - n) c.awake.ensures) c.make_round.ensures.round in
    (c.make_round.ensures.further, rounds.0, rounds.1)

pub loop-preserved : goal.loop-preserved
loop-preserved g c =
    let rounds =
    further_round _ g.K.KeyHash.hash_of c.args.now (c.args.counting.now, c.args.guests.now, c.args.end.now) (c.loop.counting, c.loop.guests, c.loop.end)
    (c.make_round-in-loop.new.counting, c.make_round-in-loop.new.guests, c.make_round-in-loop.new.end) c.loop.left _ (c.loop.invariant.1, c.loop.invariant.2)
    (omega (arith, c.if-left-eq0.false)) (sym c.is_quiet.ensures ∙ c.if-is_quiet.false)
    (c.saturating_sub-left-in-loop.ensures ∙ ap (λ (n : ℕ). c.loop.left - n) c.awake-in-loop.ensures) c.make_round-in-loop.ensures.round in
    (goes_both (at c.args.now) _ _ _ c.loop.invariant.0 c.make_round-in-loop.ensures.further, rounds.0, rounds.1)
