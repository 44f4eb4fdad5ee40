use Rattle.std.proofs.Common.{◌+◌, ◌≤◌, length, decimal, sym, subst}
use Rattle.mc_slab.specs.Needs.{size_in}
use Rattle.mc_item.specs.Items.{ItemState, item_need}
use Rattle.mc_item.proofs.RunLemmas.{room_in, IsItem-item_in}
use Rattle.mc_item.proofs.item.Item.rewrite_number.Goals as goal

pub returns-clause-is_item : goal.returns-clause-is_item
returns-clause-is_item c = IsItem-item_in _ c.write_number.ensures.holds

pub write_number-requires-clause-room : goal.write_number-requires-clause-room
write_number-requires-clause-room c =
    room_in c.self.inside.chunks (length (decimal c.args.number)) c.self.invariant
    (subst (λ (s : ItemState). 48 + length s.key + length (decimal c.args.number) ≤ size_in (item_need s)) (sym c.self.view_is) c.requires.room)
