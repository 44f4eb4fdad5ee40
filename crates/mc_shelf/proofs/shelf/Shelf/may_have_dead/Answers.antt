use Rattle.mc_shelf.proofs.Common.{NoneIsDead, ShelfState, subst}
use Rattle.mc_shelf.proofs.FlushLemmas.{nothing_purged}
use Rattle.mc_shelf.proofs.shelf.Shelf.may_have_dead.Goals as goal

pub returns-clause-part : goal.returns-clause-part
returns-clause-part c none hash_of shelves at state fits =
    nothing_purged c.args.now fits (subst (λ (s : ShelfState). NoneIsDead c.args.now s.content.cut s.content.items) c.self.view_is (c.may_have_dead.ensures.none none))
