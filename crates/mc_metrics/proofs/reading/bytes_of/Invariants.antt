use Rattle.std.proofs.Common.{◌≡◌, take}
use Rattle.mc_metrics.specs.Pages.{bytes_of}
use Rattle.mc_metrics.proofs.reading.bytes_of.Given as goal

abbrev pub invariant-loop-slab : goal.invariant-loop-slab
invariant-loop-slab l = l.bytes ≡ bytes_of (take l.slab-index l.slabs)
