use Rattle.std.proofs.Common.{◌+◌, ◌≤◌, length, arith, sym, subst}
use Rattle.mc_slab.specs.Needs.{size_in}
use Rattle.mc_item.specs.Items.{ItemState, charge_of, item_need}
use Rattle.mc_item.specs.Layout.{block_length_in}
use Rattle.mc_item.proofs.RunLemmas.{length-block_in, room_in, IsItem-item_in}
use Rattle.mc_item.proofs.item.Item.extend.Goals as goal

pub returns-clause-is_item : goal.returns-clause-is_item
returns-clause-is_item c = IsItem-item_in _ c.write_behind.ensures.holds

pub write_behind-requires-clause-room : goal.write_behind-requires-clause-room
write_behind-requires-clause-room c =
    let chunks = c.self.inside.chunks in
    let block = length-block_in chunks c.self.invariant in
    let room = subst (λ (s : ItemState). charge_of s + length c.args.more.now ≤ size_in (item_need s)) (sym c.self.view_is) c.requires.room in
    room_in chunks (block_length_in chunks.head + length c.args.more.now) c.self.invariant (omega (arith, block, room))
