use Rattle.std.proofs.Common.{◌≡◌, ◌+◌, length, take, List, ℕ, ap, ◌∙◌, length-append, arith}
use Rattle.std.specs.List.{concat}
use Rattle.mc_reply.proofs.PartLemmas.{concat-more}
use Rattle.mc_reply.proofs.retrieval.length_of.Goals as goal

pub loop-part-preserved : goal.loop-part-preserved
loop-part-preserved c =
    let parts : List (List ℕ) = c.args.parts.now in
    let done : List ℕ = concat (take c.loop-part.part-index parts) in
    let part : List ℕ = c.part-item.result in
    let more : length (concat (take (c.loop-part.part-index + 1) parts)) ≡ length done + length part =
    ap length (concat-more parts c.loop-part.part-index part c.loop-part-test.true c.part-item.is) ∙ length-append done part in
    let same : length c.as_slice.result.now ≡ length part = ap length c.as_slice.ensures in
    let before = c.loop-part.invariant in
    let after = c.saturating_add-counted.ensures in
    omega arith
