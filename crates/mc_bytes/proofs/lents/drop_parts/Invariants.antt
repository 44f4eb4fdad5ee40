use Rattle.std.proofs.Common.{◌≡◌, ◌≤◌, ◌++◌, length, drop}
use Rattle.std.specs.List.{concat}
use Rattle.mc_bytes.proofs.lents.drop_parts.Given as goal

abbrev pub invariant-loop-left : goal.invariant-loop-left
invariant-loop-left l =
    (l.left ≤ length (l.first ++ concat l.rest.items))
    × (drop l.left (l.first ++ concat l.rest.items) ≡ drop l.fn.n (l.fn.first ++ concat l.fn.rest.items))

abbrev pub decreases-loop-left : goal.decreases-loop-left
decreases-loop-left l = l.rest.len
