use Rattle.std.proofs.Common.{◌≡◌, length, take, vec_capacity}
use Rattle.mc_bytes.proofs.buffer.exact_copy.Given as goal

abbrev pub invariant-loop-byte : goal.invariant-loop-byte
invariant-loop-byte l = record {
  items : l.copy.items ≡ take l.byte-index l.bytes;
  exact : vec_capacity l.copy ≡ length l.bytes;
}
