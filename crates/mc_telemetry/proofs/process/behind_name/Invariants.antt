use Rattle.std.proofs.Common.{◌≡◌, ◌≤◌, ◌+◌, ◌==◌, not, take, length}
use Rattle.std.specs.List.{suffix_len}
use Rattle.std.specs.Str.{byte}
use Rattle.mc_telemetry.proofs.process.behind_name.Given as goal

abbrev pub invariant-loop-end : goal.invariant-loop-end
invariant-loop-end l =
    (l.end ≤ length l.stat)
    × (l.end + suffix_len (λ b. not (b == byte ")")) l.stat ≡ length l.stat + suffix_len (λ b. not (b == byte ")")) (take l.end l.stat))

abbrev pub decreases-loop-end : goal.decreases-loop-end
decreases-loop-end l = l.end
