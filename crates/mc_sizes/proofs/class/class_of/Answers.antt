use Rattle.std.proofs.Common.{◌-◌, ◌≤◌, refl, sym, arith}
use Rattle.mc_sizes.proofs.ClassLemmas.{class_of-some, class_of-none, charge_most, charge_above}
use Rattle.mc_sizes.proofs.class.class_of.Goals as goal

pub returns-then-smaller-lt40-clause-value : goal.returns-then-smaller-lt40-clause-value
returns-then-smaller-lt40-clause-value c = sym (class_of-some _ _ c.smaller_sizes-smaller.ensures c.if-smaller-lt40.true)

pub returns-then-smaller-lt40-clause-none : goal.returns-then-smaller-lt40-clause-none
returns-then-smaller-lt40-clause-none c =
    let most : c.args.charge ≤ 1048576 = charge_most _ _ c.smaller_sizes-smaller.ensures c.if-smaller-lt40.true in
    ((λ no. cc), (λ above. absurd (omega arith)))

pub returns-then-smaller-lt40-clause-holds : goal.returns-then-smaller-lt40-clause-holds
returns-then-smaller-lt40-clause-holds c = c.smaller_sizes-smaller.ensures.behind _ (omega arith) (omega arith)

pub returns-then-smaller-lt40-clause-smallest : goal.returns-then-smaller-lt40-clause-smallest
returns-then-smaller-lt40-clause-smallest c = λ class first below. c.smaller_sizes-smaller.ensures.before (class - 1) (omega arith)

pub returns-else-smaller-lt40-clause-value : goal.returns-else-smaller-lt40-clause-value
returns-else-smaller-lt40-clause-value c = sym (class_of-none _ _ c.smaller_sizes-smaller.ensures c.if-smaller-lt40.false)

pub returns-else-smaller-lt40-clause-none : goal.returns-else-smaller-lt40-clause-none
returns-else-smaller-lt40-clause-none c =
    ((λ _. charge_above _ _ c.smaller_sizes-smaller.ensures c.if-smaller-lt40.false), (λ _. refl))
