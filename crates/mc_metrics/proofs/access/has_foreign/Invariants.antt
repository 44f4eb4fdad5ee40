use Rattle.std.proofs.Common.{◌≡◌, false, take}
use Rattle.std.specs.List.{list_any}
use Rattle.httparse.specs.Spans.{header_bytes}
use Rattle.mc_metrics.specs.Access.{is_foreign}
use Rattle.mc_metrics.proofs.access.has_foreign.Given as goal

abbrev pub invariant-loop-span : goal.invariant-loop-span
invariant-loop-span l =
    list_any (λ span. is_foreign (header_bytes l.bytes span)) (take l.span-index l.spans) ≡ false
