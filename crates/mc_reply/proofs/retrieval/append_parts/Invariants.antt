use Rattle.std.proofs.Common.{◌≡◌, ◌++◌, ◌≤◌, take, vec_capacity}
use Rattle.std.specs.List.{concat}
use Rattle.mc_reply.proofs.retrieval.append_parts.Given as goal

abbrev pub invariant-loop-part : goal.invariant-loop-part
invariant-loop-part l = record {
  items : l.out.items ≡ l.fn.out.items ++ concat (take l.part-index l.parts);
  room : vec_capacity l.fn.out ≤ vec_capacity l.out;
}
