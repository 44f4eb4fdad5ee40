use Rattle.std.proofs.Common.{◌≡◌, ◌+◌, ◌++◌, length, take, ℕ, List, arith, append_assoc, length-append, sym, ap, ◌∙◌}
use Rattle.std.specs.List.{concat}
use Rattle.mc_item.specs.Items.{parts_of}
use Rattle.mc_item.proofs.PartLemmas.{concat-more, concat-within}
use Rattle.mc_item.proofs.RunLemmas.{concat-all}
use Rattle.mc_item.proofs.item.Item.append_to.Goals as goal

pub append_reserved-requires-in-loop-index : goal.append_reserved-requires-in-loop-index
append_reserved-requires-in-loop-index c =
    let parts : List (List ℕ) = parts_of c.args.self.now in
    let done : List ℕ = concat (take c.loop-index.index parts) in
    let few = concat-within parts c.loop-index.index c.part-in-loop-index.result.now c.part-in-loop-index.ensures.value in
    let joined = ap length c.parts-parts.ensures.joined in
    let items = ap length c.loop-index.invariant.items in
    let both : length (c.args.out.now.items ++ done) ≡ length c.args.out.now.items + length done = length-append c.args.out.now.items done in
    let room = c.loop-index.invariant.room in
    omega arith

pub loop-index-preserved : goal.loop-index-preserved
loop-index-preserved c =
    let parts : List (List ℕ) = parts_of c.args.self.now in
    let done : List ℕ = concat (take c.loop-index.index parts) in
    let more : concat (take (c.loop-index.index + 1) parts) ≡ done ++ c.part-in-loop-index.result.now
    = concat-more parts c.loop-index.index c.part-in-loop-index.result.now c.part-in-loop-index.ensures.value in
    let room = c.loop-index.invariant.room in
    let kept = c.append_reserved-in-loop-index.ensures.room in
    record {
      items = c.append_reserved-in-loop-index.ensures.items
          ∙ ap (λ (l : List ℕ). l ++ c.part-in-loop-index.result.now) c.loop-index.invariant.items
          ∙ append_assoc c.args.out.now.items done c.part-in-loop-index.result.now
          ∙ ap (λ (l : List ℕ). c.args.out.now.items ++ l) (sym more);
      room = omega arith;
    }

pub returns-clause-ok : goal.returns-clause-ok
returns-clause-ok c = c.loop-index.invariant.items
    ∙ ap (λ (l : List ℕ). c.args.out.now.items ++ l) (concat-all c.args.self.now c.parts-parts.ensures.is_item c.loop-index.index (omega (arith, c.parts-parts.ensures.value, c.loop-index-test.false)))
