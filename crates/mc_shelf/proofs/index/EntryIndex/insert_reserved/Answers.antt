use Rattle.mc_shelf.proofs.Common.{◌≡◌, EntryState, get, IndexState, items_of, KeyComes, None, subst, sym}
use Rattle.mc_shelf.proofs.KeyMapLemmas.{no_item_entry}
use Rattle.mc_shelf.proofs.IndexLemmas.{came, came_keyed, key_at}
use Rattle.mc_shelf.proofs.DeathLemmas.{sooner_insert}
use Rattle.mc_shelf.proofs.index.EntryIndex.insert_reserved.Goals as goal

pub insert_reserved-requires-clause-new : goal.insert_reserved-requires-clause-new
insert_reserved-requires-clause-new c =
    no_item_entry _ c.self.invariant.0 c.args.entry.key (subst (λ (s : IndexState EntryState). get (items_of s) c.args.entry.key ≡ None) (sym c.self.view_is) c.requires.absent) c.args.entry.hash

pub invariant_of-self : goal.invariant_of-self
invariant_of-self c =
    let inside = c.self.inside in
    let entry = c.args.entry in
    let absent = subst (λ (s : IndexState EntryState). get (items_of s) entry.key ≡ None) (sym c.self.view_is) c.requires.absent in
    let comes = came inside.entries c.insert_reserved.new.self c.self.invariant.0 entry absent c.insert_reserved.ensures.content in (
      came_keyed inside.entries c.insert_reserved.new.self c.self.invariant.0 entry absent c.insert_reserved.ensures.content,
      sooner_insert inside.soonest c.note.new.self (items_of inside.entries) (items_of c.insert_reserved.new.self) entry.key entry.item comes.items c.self.invariant.1
          c.note.ensures.others
          (c.note.ensures.one entry.item (sym c.expiry.ensures) (sym c.updated_at.ensures)),
    )

pub returns-clause-inserted : goal.returns-clause-inserted
returns-clause-inserted c =
    subst (λ (s : IndexState EntryState). KeyComes s c.insert_reserved.new.self c.args.entry) c.self.view_is
    (came c.self.inside.entries c.insert_reserved.new.self c.self.invariant.0 c.args.entry
    (subst (λ (s : IndexState EntryState). get (items_of s) c.args.entry.key ≡ None) (sym c.self.view_is) c.requires.absent) c.insert_reserved.ensures.content)

pub returns-clause-place : goal.returns-clause-place
returns-clause-place c =
    key_at c.insert_reserved.new.self (invariant_of-self c).0 c.args.entry.hash c.args.entry.key c.insert_reserved.result c.insert_reserved.ensures.place
