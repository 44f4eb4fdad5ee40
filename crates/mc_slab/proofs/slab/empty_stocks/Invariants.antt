use Rattle.std.proofs.Common.{◌≡◌, map, vec_capacity}
use Rattle.std.specs.List.{range_with_len}
use Rattle.mc_slab.specs.Slabs.{empty_stock}
use Rattle.mc_slab.proofs.slab.empty_stocks.Given as goal

abbrev pub invariant-loop-index : goal.invariant-loop-index
invariant-loop-index l = record {
  stocks : l.stocks.items ≡ map empty_stock (range_with_len 1 l.index);
  capacity : vec_capacity l.stocks ≡ 40;
}
