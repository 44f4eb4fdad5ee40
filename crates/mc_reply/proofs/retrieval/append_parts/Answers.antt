use Rattle.std.proofs.Common.{◌≡◌, ◌+◌, ◌++◌, length, take, List, ℕ, sym, ap, ◌∙◌, append_assoc, length-append, arith, rules}
use Rattle.std.specs.List.{concat}
use Rattle.mc_reply.specs.Texts.{HasNoRoom}
use Rattle.mc_reply.proofs.PartLemmas.{concat-more, concat-within}
use Rattle.mc_reply.proofs.retrieval.append_parts.Goals as goal

pub returns-in_err-extend_from_slice-clause-full :
    goal.returns-in_err-extend_from_slice-clause-full
returns-in_err-extend_from_slice-clause-full c =
    let parts : List (List ℕ) = c.args.parts.now in
    let done : List ℕ = concat (take c.loop-part.part-index parts) in
    let within = concat-within parts c.loop-part.part-index c.part-item.result c.loop-part-test.true c.part-item.is in
    let same : length c.as_slice.result.now ≡ length c.part-item.result = ap length c.as_slice.ensures in
    let items = ap length c.loop-part.invariant.items in
    let both : length (c.args.out.now.items ++ done) ≡ length c.args.out.now.items + length done = length-append c.args.out.now.items done in
    let room = c.loop-part.invariant.room in
    let full = c.in_err-extend_from_slice.ensures.full in
    let none : HasNoRoom c.args.out.now (concat parts) = omega arith in
    search rules

pub loop-part-preserved : goal.loop-part-preserved
loop-part-preserved c =
    let parts : List (List ℕ) = c.args.parts.now in
    let done : List ℕ = concat (take c.loop-part.part-index parts) in
    let part : List ℕ = c.part-item.result in
    let more : concat (take (c.loop-part.part-index + 1) parts) ≡ done ++ part = concat-more parts c.loop-part.part-index part c.loop-part-test.true c.part-item.is in
    let room = c.loop-part.invariant.room in
    let kept = c.extend_from_slice.ensures.capacity in
    record {
      items = c.in_ok-extend_from_slice.ensures.items
          ∙ ap (λ (l : List ℕ). c.loop-part.out.items ++ l) c.as_slice.ensures
          ∙ ap (λ (l : List ℕ). l ++ part) c.loop-part.invariant.items
          ∙ append_assoc c.args.out.now.items done part
          ∙ ap (λ (l : List ℕ). c.args.out.now.items ++ l) (sym more);
      room = omega arith;
    }
