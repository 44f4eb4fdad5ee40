use Rattle.std.proofs.Common.{◌≡◌, ◌<◌, ℕ, length, slice_index}
use Rattle.std.specs.Arc.{arc_value}
use Rattle.mc_metrics.specs.Sums.{Counts, IsSum}
use Rattle.mc_metrics.specs.declared.counts.TheConstants.{COUNTED}
use Rattle.mc_metrics.proofs.counts.sums_of.Given as goal

abbrev pub invariant-loop-at : goal.invariant-loop-at
invariant-loop-at g l = (length l.sums ≡ COUNTED) × ((place : ℕ) → place < l.at
    → IsSum (λ worker. Counts g.C.SharedCount.was_read place (arc_value worker)) l.workers (slice_index l.sums place))
