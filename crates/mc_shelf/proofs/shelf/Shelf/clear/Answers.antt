use Rattle.mc_shelf.proofs.Common.{◌∙◌, ap, counts_in, counts_of, items_of}
use Rattle.mc_shelf.proofs.DeathLemmas.{sooner_none}
use Rattle.mc_shelf.proofs.ShelfLemmas.{content_of}
use Rattle.mc_shelf.proofs.SweepLemmas.{IsNone, below_removed, cleared, entry_gives, entry_out}
use Rattle.mc_shelf.proofs.CountLemmas.{drops_one}
use Rattle.mc_shelf.proofs.LenLemmas.{one_less}
use Rattle.mc_shelf.proofs.shelf.Shelf.clear.Goals as goal

pub give-requires : goal.give-requires
give-requires c =
    entry_out c.remove-entry.result c.into_chunks.result c.loop-number.invariant.gives c.requires c.remove-entry.ensures.item c.remove-entry.ensures.removed
    c.into_chunks.ensures.need c.into_chunks.ensures.is_need

pub loop-number-preserved : goal.loop-number-preserved
loop-number-preserved c =
    let index = c.loop-number.self-inside.index in
    let held = c.loop-number.invariant in
    let entry = c.remove-entry.result in
    record {
      most = held.most;
      greatest = held.greatest;
      cut = held.cut;
      gives = entry_gives entry c.into_chunks.result held.gives c.requires c.remove-entry.ensures.item c.remove-entry.ensures.removed c.into_chunks.ensures.need c.into_chunks.ensures.is_need
          c.give.ensures.given c.give.ensures.slab;
      table = drops_one (counts_of c.args.self.now) (counts_in index) (counts_in c.remove-entry.new.self) held.table c.remove-entry.ensures.table
          (one_less (items_of index) (items_of c.remove-entry.new.self) entry.key entry.item c.remove-entry.ensures.item c.remove-entry.ensures.removed.items);
      below = below_removed c.in-Some.ensures.next IsNone held.below c.remove-entry.ensures.lower;
      reclaimed = held.reclaimed;
    }

pub keep_soonest-requires : goal.keep_soonest-requires
keep_soonest-requires c =
    sooner_none _ _ (cleared c.loop-number.self-inside.index c.in_default.ensures.keyed c.loop-number.at c.loop-number.invariant.below c.in_default.ensures.next).0

pub returns-clause-shelf : goal.returns-clause-shelf
returns-clause-shelf c =
    let inside = c.loop-number.self-inside in
    let held = c.loop-number.invariant in
    let none = cleared inside.index c.in_default.ensures.keyed c.loop-number.at held.below c.in_default.ensures.next in
    ap (content_of inside.greatest inside.cut) c.keep_soonest.ensures
    ∙ (λ i. record { greatest = held.greatest i; items = none.0 i; hashes = none.1 i; cut = held.cut i })
