use Rattle.mc_shelf.proofs.Common.{◌≡◌, EntryState, get, IndexState, items_of, KeyGoes, Some, subst}
use Rattle.mc_shelf.proofs.IndexLemmas.{gone, gone_item, gone_keyed}
use Rattle.mc_shelf.proofs.DeathLemmas.{sooner_remove}
use Rattle.mc_shelf.proofs.index.EntryIndex.remove.Goals as goal

pub invariant_of-self : goal.invariant_of-self
invariant_of-self c =
    let removed = gone c.self.inside.entries c.remove.new.self c.self.invariant.0 c.remove.result c.args.place c.remove.ensures.there c.remove.ensures.lower c.remove.ensures.removed in (
      gone_keyed c.self.inside.entries c.remove.new.self c.self.invariant.0 c.remove.result c.args.place c.remove.ensures.there c.remove.ensures.lower c.remove.ensures.removed,
      sooner_remove c.self.inside.soonest (items_of c.self.inside.entries) (items_of c.remove.new.self) c.remove.result.key removed.items c.self.invariant.1,
    )

pub returns-clause-item : goal.returns-clause-item
returns-clause-item c =
    subst (λ (s : IndexState EntryState). get (items_of s) c.remove.result.key ≡ Some c.remove.result.item) c.self.view_is
    (gone_item c.self.inside.entries c.remove.new.self c.self.invariant.0 c.remove.result c.args.place c.remove.ensures.there c.remove.ensures.lower c.remove.ensures.removed)

pub returns-clause-removed : goal.returns-clause-removed
returns-clause-removed c =
    subst (λ (s : IndexState EntryState). KeyGoes s c.remove.new.self c.remove.result.key) c.self.view_is
    (gone c.self.inside.entries c.remove.new.self c.self.invariant.0 c.remove.result c.args.place c.remove.ensures.there c.remove.ensures.lower c.remove.ensures.removed)
