use Rattle.std.proofs.Common.{◌≡◌, ◌++◌, take}
use Rattle.mc_metrics.specs.Pages.{families_text}
use Rattle.mc_metrics.proofs.page.put_families.Given as goal

abbrev pub invariant-loop-family : goal.invariant-loop-family
invariant-loop-family l =
    l.page.items ≡ l.fn.page.items ++ families_text l.reading (take l.family-index l.families)
