use Rattle.std.proofs.Common.{◌≡◌, ◌++◌, take}
use Rattle.mc_metrics.specs.Pages.{each_text}
use Rattle.mc_metrics.proofs.page.put_each.Given as goal

abbrev pub invariant-loop-row : goal.invariant-loop-row
invariant-loop-row l =
    l.page.items ≡ l.fn.page.items ++ each_text l.reading l.name (take l.row-index l.rows)
