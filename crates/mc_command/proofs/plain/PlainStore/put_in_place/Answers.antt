use Rattle.std.proofs.Common.{◌+◌, sym, subst, ap}
use Rattle.std.specs.Prelude.{IsSome, IsTrue}
use Rattle.std.specs.FinMap.{get}
use Rattle.mc_protocol.specs.Plain.{Plain, Entry, block_need}
use Rattle.mc_command.specs.Items.{items_of}
use Rattle.mc_command.specs.Steps.{needs_this}
use Rattle.mc_command.proofs.ItemLemmas.{item_at, get-items_of}
use Rattle.mc_command.proofs.PlainLemmas.{items_of-set, needs_this-some, is_some-copied}
use Rattle.mc_command.proofs.RoomLemmas.{shown}
use Rattle.mc_command.proofs.plain.PlainStore.put_in_place.Goals as goal

pub unwrap-item-requires : goal.unwrap-item-requires
unwrap-item-requires c =
    let i = c.self.inside in
    let key = c.args.key.now in
    let same = subst (λ (p : Plain). IsTrue (needs_this key (get p.items key) (block_need key c.args.written.block))) (sym c.self.view_is) c.requires.need in
    is_some-copied c.get_mut.result _ c.get_mut.ensures.value (subst IsSome (get-items_of i.items.entries key) (needs_this-some key (get (items_of i.items.entries) key) _ same))

pub returns : goal.returns
returns c =
    let i = c.self.inside in
    let key = c.args.key.now in
    let item : Entry = record { flags = c.args.written.flags; expiry = c.args.written.expiry; block = c.args.written.block; unique = i.next_unique; updated = c.args.now } in
    let same = subst (λ (p : Plain). IsTrue (needs_this key (get p.items key) (block_need key c.args.written.block))) (sym c.self.view_is) c.requires.need in
    let some : IsSome (item_at i.items.entries key) = subst IsSome (get-items_of i.items.entries key) (needs_this-some key (get (items_of i.items.entries) key) _ same) in
    rw (← c.self.view_is, c.of.ensures)
    (ap (shown i.greatest i.limit i.cut (i.next_unique + 1) i.pages)
    (items_of-set i.items.entries (c.get_mut.follows.lender item).entries key item (c.get_mut.follows.holds item).0 some))
