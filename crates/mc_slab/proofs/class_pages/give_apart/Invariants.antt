use Rattle.std.proofs.Common.{◌≡◌, ◌+◌, vec_len, vec_capacity}
use Rattle.std.specs.List.{All}
use Rattle.mc_slab.specs.Chunks.{AreChunks}
use Rattle.mc_slab.specs.PagesByClass.{IsChunkOf}
use Rattle.mc_slab.proofs.class_pages.give_apart.Given as goal

abbrev pub invariant-loop : goal.invariant-loop
invariant-loop l = record {
  class : l.rest.class ≡ l.fn.chunks.class;
  count : l.rest.count + l.counter ≡ l.fn.count + 1;
  are : AreChunks l.rest;
  free : All (IsChunkOf l.fn.chunks.class) l.free.items;
  given : vec_len l.free + 1 ≡ vec_len l.fn.free + l.counter;
  capacity : vec_capacity l.free ≡ vec_capacity l.fn.free;
}
