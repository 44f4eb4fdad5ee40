use Rattle.std.proofs.Common.{rules}
use Rattle.mc_host.proofs.CoverLemmas.{first-bound}
use Rattle.mc_host.proofs.covers.led_by.Goals as goal
use Rattle.mc_host.proofs.covers.led_by.Goals.{else-is_dual-via-then-is_dual+then-is_covered+else-not-is_empty, else-is_dual-via-then-is_dual+else-is_covered, else-is_dual-via-else-is_dual}

pub returns : goal.returns
returns c =
    first-bound c.args.endpoints.now c.args.is_dual c.args.others.items c.requires
    (λ dual covered. elim c.else-is_dual.branch [
      | else-is_dual-via-then-is_dual+then-is_covered+else-not-is_empty w ↦ search (rules, w)
      | else-is_dual-via-then-is_dual+else-is_covered w ↦ search (rules, w)
      | else-is_dual-via-else-is_dual w ↦ search (rules, w)
    ])
