use Rattle.mc_shelf.proofs.Common.{◌∙◌, arith, EntryState, IndexState, items_of, subst, sym}
use Rattle.mc_shelf.specs.Sweeps.{TakesDead}
use Rattle.mc_shelf.proofs.LenLemmas.{one_less}
use Rattle.mc_shelf.proofs.ShelfLemmas.{content_of}
use Rattle.mc_shelf.proofs.SweepLemmas.{counted_one, swept_all, swept_gone, swept_on}
use Rattle.mc_shelf.proofs.shelf.Shelf.take_dead.Goals as goal

pub push_reserved-requires : goal.push_reserved-requires
push_reserved-requires c =
    let inside = c.loop-number.self-inside in
    let entry = c.remove-entry.result in
    let less = one_less (items_of inside.index) (items_of c.remove-entry.new.self) entry.key entry.item c.remove-entry.ensures.item c.remove-entry.ensures.removed.items in
    omega (arith, less, c.loop-number.invariant.room)

pub loop-number-preserved-then-is_gone : goal.loop-number-preserved-then-is_gone
loop-number-preserved-then-is_gone c =
    let index = c.loop-number.self-inside.index in
    let held = c.loop-number.invariant in
    let entry = c.remove-entry.result in
    let less = one_less (items_of index) (items_of c.remove-entry.new.self) entry.key entry.item c.remove-entry.ensures.item c.remove-entry.ensures.removed.items in
    record {
      walk = swept_gone held.walk c.in-Some.ensures.next c.get.result c.get.ensures (sym c.is_gone.ensures ∙ c.if-is_gone.true) c.remove-entry.new.self entry
          c.remove-entry.ensures.there c.remove-entry.ensures.item c.remove-entry.ensures.removed c.remove-entry.ensures.table c.remove-entry.ensures.lower;
      counts = λ class.
          let one = counted_one (items_of index) (items_of c.remove-entry.new.self) entry.key entry.item c.push_reserved.new.self.items c.loop-number.chunks.items
          c.into_chunks.result c.remove-entry.ensures.item c.remove-entry.ensures.removed.items c.into_chunks.ensures.need c.push_reserved.ensures.items class in
          omega (arith, one, held.counts class);
      room = omega (arith, less, held.room, c.push_reserved.ensures.len, c.push_reserved.ensures.capacity);
      reclaimed = held.reclaimed;
    }

pub loop-number-preserved : goal.loop-number-preserved
loop-number-preserved c =
    let held = c.loop-number.invariant in
    record {
      walk = swept_on held.walk c.in-Some.ensures.next c.get.result c.get.ensures (sym c.is_gone.ensures ∙ c.if-is_gone.false) c.get-else-is_gone.result c.get-else-is_gone.ensures
          c.with_found-soonest.result c.with_found-soonest.ensures.others c.with_found-soonest.ensures.found;
      counts = held.counts;
      room = held.room;
      reclaimed = held.reclaimed;
    }

-- at the end
pub keep_soonest-requires : goal.keep_soonest-requires
keep_soonest-requires c = (swept_all c.loop-number.invariant.walk c.in_default.ensures.keyed c.in_default.ensures.next).1

pub returns-clause-took : goal.returns-clause-took
returns-clause-took c =
    let inside = c.loop-number.self-inside in
    let all = swept_all c.loop-number.invariant.walk c.in_default.ensures.keyed c.in_default.ensures.next in
    subst (λ (i : IndexState EntryState). TakesDead c.args.now c.args.self.now.content c.loop-number.chunks.items (content_of inside.greatest inside.cut i)) (sym c.keep_soonest.ensures)
    (record { purged = all.0; counts = c.loop-number.invariant.counts })
