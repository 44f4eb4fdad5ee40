use Rattle.mc_shelf.proofs.Common.{lt-ltb}
use Rattle.mc_shelf.proofs.LeftLemmas.{falls_at}
use Rattle.mc_shelf.proofs.StoreLemmas.{shelf_here, kept_after, plain_after}
use Rattle.mc_shelf.proofs.store.Store.purge.Goals as goal

pub purge_part-requires : goal.purge_part-requires
purge_part-requires g c =
    let parts = c.self.invariant.parts in
    let fits = parts.each c.args.shelf c.index_mut-shelf.result.now (shelf_here c.self.inside.parts.settings parts c.if-shelf-self.true c.index_mut-shelf.ensures.value) in
    (_, _, c.args.shelf, _, fits, parts.account)

pub invariant_of-self : goal.invariant_of-self
invariant_of-self g c =
    let parts = c.self.invariant.parts in
    let settings = c.self.inside.parts.settings in
    let fits = parts.each c.args.shelf c.index_mut-shelf.result.now (shelf_here settings parts c.if-shelf-self.true c.index_mut-shelf.ensures.value) in
    record {
      parts = kept_after settings parts c.purge_part.new.self (c.purge_part.ensures.goes _ _ c.args.shelf _ fits parts.account);
      divides = c.self.invariant.divides;
    }

pub returns-then-shelf-self-clause-plain : goal.returns-then-shelf-self-clause-plain
returns-then-shelf-self-clause-plain g c =
    let parts = c.self.invariant.parts in
    let settings = c.self.inside.parts.settings in
    let fits = parts.each c.args.shelf c.index_mut-shelf.result.now (shelf_here settings parts c.if-shelf-self.true c.index_mut-shelf.ensures.value) in
    rw (← c.self.view_is, lt-ltb c.args.shelf settings.shelves c.if-shelf-self.true)
    (plain_after settings parts c.purge_part.new.self (c.purge_part.ensures.goes _ _ c.args.shelf _ fits parts.account))

pub returns-then-shelf-self-clause-left : goal.returns-then-shelf-self-clause-left
returns-then-shelf-self-clause-left g c =
    let parts = c.self.invariant.parts in
    let s = c.self.inside.parts in
    let here = shelf_here s.settings parts c.if-shelf-self.true c.index_mut-shelf.ensures.value in
    rw (← c.self.view_is) (falls_at s.shelves.items c.args.shelf c.purge_part.new.self here c.purge_part.ensures.table.less)
