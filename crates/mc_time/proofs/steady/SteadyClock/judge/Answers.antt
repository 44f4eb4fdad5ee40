use Rattle.std.proofs.Common.{rules}
use Rattle.mc_time.proofs.JudgeLemmas.{after_begun, after_stood}
use Rattle.mc_time.proofs.steady.SteadyClock.judge.Goals as goal

pub store-requires : goal.store-requires
store-requires g c =
    after_stood g.S.Readings.may_read c.read-reading.result c.read-reading.ensures _ c.deref.result.now.begun c.after-after.result c.after-after.ensures (search rules)

pub invariant_of-judged : goal.invariant_of-judged
invariant_of-judged g c = record {
  begun = after_begun g.S.Readings.may_read c.read-reading.result c.read-reading.ensures _ c.deref.result.now.begun c.after-after.result c.after-after.ensures;
}
