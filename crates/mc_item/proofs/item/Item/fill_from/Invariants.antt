use Rattle.std.proofs.Common.{◌≡◌, ◌+◌, ◌≤◌, length, take}
use Rattle.std.specs.List.{concat}
use Rattle.mc_slab.specs.Chunks.{with_part}
use Rattle.mc_item.specs.Items.{IsItem, parts_of}
use Rattle.mc_item.proofs.item.Item.fill_from.Given as goal

abbrev pub invariant-loop-index : goal.invariant-loop-index
invariant-loop-index l = record {
  place : l.place ≡ l.fn.at + length (concat (take l.index (parts_of l.fn.other)));
  filled : l.self ≡ record l.fn.self { block = with_part l.fn.self.block l.fn.at (concat (take l.index (parts_of l.fn.other))) };
  is_item : 1 ≤ l.index → IsItem l.self;
}
