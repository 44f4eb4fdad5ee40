use Rattle.std.proofs.Common.{arith}
use Rattle.mc_guests.proofs.JudgeLemmas.{judges_long, judges_counts}
use Rattle.mc_guests.proofs.guests.Guests.judge_slowest.Goals as goal

pub invariant_of-self : goal.invariant_of-self
invariant_of-self g c =
    let ticks = c.self.inside.budget.ticks in
    let long = judges_long ticks c.judge_slowest.result c.self.inside.row c.judge_slowest.new.self c.judge_slowest.ensures in
    let all = c.self.invariant.0 in (
      omega (arith, long, all),
      judges_counts ticks _ _ _ _ c.judge_slowest.result c.self.inside.row c.judge_slowest.new.self c.judge_slowest.ensures c.self.invariant.1,
    )
