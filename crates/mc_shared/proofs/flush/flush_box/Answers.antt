use Rattle.mc_shared.proofs.Words.{rules, ap, ShelfState}
use Rattle.mc_shared.proofs.LaterLemmas.{cut_alone}
use Rattle.mc_shared.proofs.flush.flush_box.Goals as goal

pub returns-then-not-may_have_dead-clause-shelf : goal.returns-then-not-may_have_dead-clause-shelf
returns-then-not-may_have_dead-clause-shelf c =
    cut_alone (search rules) (c.may_have_dead.ensures.none (search rules)) c.cut_after.ensures (ap (λ (s : ShelfState). s.content) c.set_cut.ensures)
