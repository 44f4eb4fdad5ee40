use Rattle.std.proofs.Common.{◌≡◌, ◌++◌, take}
use Rattle.mc_metrics.specs.Pages.{slabs_text}
use Rattle.mc_metrics.proofs.page.put_slabs.Given as goal

abbrev pub invariant-loop-slab : goal.invariant-loop-slab
invariant-loop-slab l =
    l.page.items ≡ l.fn.page.items ++ slabs_text l.figure l.name (take l.slab-index l.slabs)
