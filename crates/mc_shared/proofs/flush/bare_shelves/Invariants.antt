use Rattle.mc_shared.proofs.Words.{◌≡◌, vec_len, All, IsBare}
use Rattle.mc_shared.proofs.flush.bare_shelves.Given as goal

abbrev pub invariant-loop : goal.invariant-loop
invariant-loop l = (vec_len l.list ≡ l.counter) × All IsBare l.list.items
