use Rattle.std.proofs.Common.{◌≡◌, ◌++◌, take}
use Rattle.mc_metrics.specs.Pages.{labels_text}
use Rattle.mc_metrics.proofs.page.put_labels.Given as goal

abbrev pub invariant-loop-row : goal.invariant-loop-row
invariant-loop-row l =
    l.page.items ≡ l.fn.page.items ++ labels_text l.reading (take l.row-index l.rows)
