use Rattle.mc_shared.proofs.Words.{◌≤◌}
use Rattle.mc_shared.proofs.Opening.{AreFilled}
use Rattle.mc_shared.proofs.store.first_words.Given as goal

abbrev pub invariant-loop-number : goal.invariant-loop-number
invariant-loop-number l = (l.number ≤ 4096) × AreFilled l.fn.count l.words.items l.counts l.number
