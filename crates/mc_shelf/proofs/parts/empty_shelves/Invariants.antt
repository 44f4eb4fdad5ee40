use Rattle.mc_shelf.proofs.Common.{◌≡◌, lefts, map, nothing_held, replicate}
use Rattle.mc_shelf.proofs.parts.empty_shelves.Given as goal

abbrev pub invariant-loop : goal.invariant-loop
invariant-loop l = record {
  content : map (λ shelf. shelf.content) l.list.items ≡ replicate l.counter (nothing_held l.greatest);
  left : lefts l.list.items ≡ replicate l.counter 0;
}
