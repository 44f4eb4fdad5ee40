use Rattle.std.proofs.Common.{◌≡◌, ◌↔◌, ◌++◌, drop}
use Rattle.std.specs.List.{concat}
use Rattle.mc_bytes.proofs.lents.are_all.Given as goal

abbrev pub invariant-loop-at : goal.invariant-loop-at
invariant-loop-at l = (l.first ++ concat l.rest.items ≡ l.bytes) ↔ (concat (drop l.at l.rest.items) ≡ l.left)
