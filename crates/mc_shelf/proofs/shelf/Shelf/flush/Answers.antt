use Rattle.mc_shelf.proofs.Common.{◌∙◌, ap, inl, inr, ShelfState}
use Rattle.mc_shelf.proofs.FlushLemmas.{is_flushed}
use Rattle.mc_shelf.proofs.shelf.Shelf.flush.Goals.{then-delay-eq0, else-delay-eq0}
use Rattle.mc_shelf.proofs.shelf.Shelf.flush.Goals as goal

pub returns-clause-shelf : goal.returns-clause-shelf
returns-clause-shelf c =
    is_flushed c.cut_after.ensures (ap (λ (s : ShelfState). s.content) c.set_cut.ensures)
    (elim c.if-delay-eq0.branch [
      | then-delay-eq0 w ↦ inl (w.if-delay-eq0.true, ap (λ (s : ShelfState). s.content) w.self-is ∙ w.clear.ensures.shelf)
      | else-delay-eq0 w ↦ inr (w.if-delay-eq0.false, rw w.self-is w.purge.ensures.shelf)
    ])
