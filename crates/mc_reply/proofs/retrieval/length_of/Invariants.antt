use Rattle.std.proofs.Common.{◌≡◌, take}
use Rattle.mc_reply.specs.Texts.{counted}
use Rattle.mc_reply.proofs.retrieval.length_of.Given as goal

abbrev pub invariant-loop-part : goal.invariant-loop-part
invariant-loop-part l = l.counted ≡ counted (take l.part-index l.parts)
