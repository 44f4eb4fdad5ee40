use Rattle.std.proofs.Common.{◌≡◌, ◌+◌, ◌*◌, length, vec_len, vec_capacity}
use Rattle.std.specs.List.{All}
use Rattle.mc_slab.specs.Classes.{size_of}
use Rattle.mc_slab.specs.PagesByClass.{IsChunkOf}
use Rattle.mc_slab.proofs.run.cut_bytes.Given as goal

abbrev pub invariant-loop : goal.invariant-loop
invariant-loop l = record {
  rest : l.counter * size_of l.class + length l.rest ≡ l.count * size_of l.class;
  made : vec_len l.chunks ≡ l.counter;
  chunks : All (IsChunkOf l.class) l.chunks.items;
  capacity : vec_capacity l.chunks ≡ vec_capacity l.fn.chunks;
}
