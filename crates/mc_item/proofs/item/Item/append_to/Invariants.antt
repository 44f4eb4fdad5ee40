use Rattle.std.proofs.Common.{◌≡◌, ◌+◌, ◌≤◌, ◌++◌, length, take, vec_capacity}
use Rattle.std.specs.List.{concat}
use Rattle.mc_item.specs.Items.{parts_of}
use Rattle.mc_item.proofs.item.Item.append_to.Given as goal

abbrev pub invariant-loop-index : goal.invariant-loop-index
invariant-loop-index l = record {
  items : l.out.items ≡ l.fn.out.items ++ concat (take l.index (parts_of l.fn.self));
  room : length l.fn.out.items + length l.fn.self.block ≤ vec_capacity l.out;
}
