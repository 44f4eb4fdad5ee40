use Rattle.mc_shared.proofs.Words.{sym, ap, ◌∙◌, subst, counts_of, AreCountsAfter, Past, start_of}
use Rattle.mc_shelf.specs.declared.counts.ShelfCounts.{ShelfCounts}
use Rattle.mc_shared.proofs.Surveyed.{counts_after}
use Rattle.mc_shared.proofs.store.Shared.shelf_counts.Goals as goal

pub returns-clause-after : goal.returns-clause-after
returns-clause-after g c =
    let start = start_of g.K.KeyHash.hash_of c.args.self.now.began in
    let held = c.wait_for_shelf-held in
    subst (λ (t : Past × ShelfCounts). AreCountsAfter start t.0 c.args.shelf t.1) (λ i. (sym c.give_shelf.ensures.past i, sym (c.counts-counts.ensures.value ∙ ap counts_of c.deref.ensures) i))
    (counts_after g.K.KeyHash.hash_of c.args.self.now held.new.seat c.args.shelf held.result.value held.ensures.holds)
