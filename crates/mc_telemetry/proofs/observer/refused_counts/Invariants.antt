use Rattle.std.specs.List.{All}
use Rattle.std.specs.Arc.{arc_value}
use Rattle.mc_metrics.specs.Sums.{IsSum, Refuses}
use Rattle.mc_telemetry.proofs.observer.refused_counts.Given as goal

abbrev pub invariant-loop-class : goal.invariant-loop-class
invariant-loop-class g l = All (λ row. IsSum (λ worker. Refuses g.C.SharedCount.was_read row.class (arc_value worker)) l.workers row.count) l.rows.items
