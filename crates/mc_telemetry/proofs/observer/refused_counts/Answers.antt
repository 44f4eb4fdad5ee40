use Rattle.std.proofs.Common.{All, sym, subst}
use Rattle.std.proofs.lemmas.List.Elements.{All-push}
use Rattle.std.specs.Arc.{arc_value}
use Rattle.mc_metrics.specs.Sums.{IsSum, Refuses}
use Rattle.mc_metrics.specs.declared.reading.RefusedReading.{RefusedReading}
use Rattle.mc_telemetry.proofs.observer.refused_counts.Goals as goal

pub loop-class-preserved : goal.loop-class-preserved
loop-class-preserved g c =
    let rows = c.loop-class.rows.items in
    let its = λ (row : RefusedReading). IsSum (λ worker. Refuses g.C.SharedCount.was_read row.class (arc_value worker)) c.args.workers.now row.count in
    subst (λ rows. All its rows) (sym c.in_ok-push.ensures.items)
    (All-push its rows (record { class = c.loop-class.class; count = c.refused_sum.result }) c.loop-class.invariant c.refused_sum.ensures)
