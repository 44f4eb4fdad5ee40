use Rattle.std.proofs.Common.{◌≡◌, ◌++◌, take}
use Rattle.mc_metrics.specs.Pages.{refused_text}
use Rattle.mc_metrics.proofs.page.put_refused.Given as goal

abbrev pub invariant-loop-row : goal.invariant-loop-row
invariant-loop-row l =
    l.page.items ≡ l.fn.page.items ++ refused_text l.name (take l.row-index l.rows)
