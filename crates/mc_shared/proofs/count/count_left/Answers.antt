use Rattle.mc_shared.proofs.Words.{rules, sym, ◌∙◌}
use Rattle.mc_shared.proofs.CountLemmas.{none_left}
use Rattle.mc_shared.proofs.count.count_left.Goals as goal

pub returns-then-delay-eq0-clause-left : goal.returns-then-delay-eq0-clause-left
returns-then-delay-eq0-clause-left c gone = record {
  many = c.no_counts.ensures.many;
  counted = λ hash_of state now all number low. c.no_counts.ensures.none number ∙ sym (none_left hash_of number c.args.delay now state (search rules));
}
