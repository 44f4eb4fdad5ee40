use Rattle.mc_shelf.proofs.Common.{◌∙◌, EntryState, IndexState, IsPurged, ShelfState, subst, sym}
use Rattle.mc_shelf.proofs.ShelfLemmas.{content_of}
use Rattle.mc_shelf.proofs.SweepLemmas.{entry_gives, entry_out, purged, swept_all, swept_gone, swept_none, swept_on}
use Rattle.mc_shelf.proofs.shelf.Shelf.purge.Goals as goal

pub give-requires : goal.give-requires
give-requires c =
    entry_out c.remove-entry.result c.into_chunks.result c.loop-number.invariant.gives c.requires c.remove-entry.ensures.item c.remove-entry.ensures.removed
    c.into_chunks.ensures.need c.into_chunks.ensures.is_need

pub loop-number-preserved-then-is_gone : goal.loop-number-preserved-then-is_gone
loop-number-preserved-then-is_gone c = record {
  walk = swept_gone c.loop-number.invariant.walk c.in-Some.ensures.next c.get.result c.get.ensures (sym c.is_gone.ensures ∙ c.if-is_gone.true) c.remove-entry.new.self c.remove-entry.result
      c.remove-entry.ensures.there c.remove-entry.ensures.item c.remove-entry.ensures.removed c.remove-entry.ensures.table c.remove-entry.ensures.lower;
  gives = entry_gives c.remove-entry.result c.into_chunks.result c.loop-number.invariant.gives c.requires c.remove-entry.ensures.item c.remove-entry.ensures.removed
      c.into_chunks.ensures.need c.into_chunks.ensures.is_need c.give.ensures.given c.give.ensures.slab;
  reclaimed = c.loop-number.invariant.reclaimed;
}

pub loop-number-preserved : goal.loop-number-preserved
loop-number-preserved c = record {
  walk = swept_on c.loop-number.invariant.walk c.in-Some.ensures.next c.get.result c.get.ensures (sym c.is_gone.ensures ∙ c.if-is_gone.false) c.get-else-is_gone.result c.get-else-is_gone.ensures
      c.with_found-soonest.result c.with_found-soonest.ensures.others c.with_found-soonest.ensures.found;
  gives = c.loop-number.invariant.gives;
  reclaimed = c.loop-number.invariant.reclaimed;
}

-- at the end
pub keep_soonest-requires : goal.keep_soonest-requires
keep_soonest-requires c = (swept_all c.loop-number.invariant.walk c.in_default.ensures.keyed c.in_default.ensures.next).1

pub returns-clause-shelf : goal.returns-clause-shelf
returns-clause-shelf c =
    let inside = c.loop-number.self-inside in
    subst (λ (i : IndexState EntryState). IsPurged c.args.now c.args.self.now.content (content_of inside.greatest inside.cut i)) (sym c.keep_soonest.ensures)
    (swept_all c.loop-number.invariant.walk c.in_default.ensures.keyed c.in_default.ensures.next).0

-- where none may be dead
pub returns-then-not-may_have_dead-clause-shelf : goal.returns-then-not-may_have_dead-clause-shelf
returns-then-not-may_have_dead-clause-shelf c =
    let inside = c.self.inside in
    let shelf = content_of inside.greatest inside.cut inside.index in
    subst (λ (s : ShelfState). IsPurged c.args.now s.content s.content) c.self.view_is
    (purged c.args.now shelf inside.greatest inside.cut inside.index c.may_have_dead.ensures.keyed (swept_none c.args.now shelf)
    (c.may_have_dead.ensures.none c.if-not-may_have_dead.true))
