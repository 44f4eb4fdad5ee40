use Rattle.mc_shelf.proofs.Common.{arith, IsNext, subst}
use Rattle.mc_shelf.proofs.SweepLemmas.{cleared}
use Rattle.mc_shelf.proofs.index.EntryIndex.any_from.Goals as goal

pub returns-in-None-clause-none : goal.returns-in-None-clause-none
returns-in-None-clause-none c is =
    (cleared c.args.self.now c.filled_from.ensures.keyed 0 (λ k e lt there. absurd (omega arith)) (subst (λ r. IsNext c.args.self.now 0 r) is c.filled_from-in-None.ensures.next)).0
