use Rattle.std.proofs.Common.{◌≡◌, ◌+◌, ◌++◌, ◌≤◌, length, take, ℕ, List, arith, sym, ap, length-append, ◌∙◌}
use Rattle.std.specs.List.{concat}
use Rattle.mc_slab.specs.Chunks.{with_part}
use Rattle.mc_item.specs.Items.{ItemState, parts_of}
use Rattle.mc_item.proofs.PartLemmas.{concat-more, concat-within, with_part-none}
use Rattle.mc_item.proofs.LayoutLemmas.{length-with_part}
use Rattle.mc_item.proofs.RunLemmas.{block_most, concat-all, fills-more, fills-room}
use Rattle.mc_item.proofs.item.Item.fill_from.Goals as goal

pub loop-index-init : goal.loop-index-init
loop-index-init c = record {
  place = omega arith;
  filled = ap (λ (b : List ℕ). record c.args.self.now { block = b }) (sym (with_part-none c.args.self.now.block c.args.at));
  is_item = λ some. absurd (omega arith);
}

pub fill-requires : goal.fill-requires
fill-requires c =
    let done : List ℕ = concat (take c.loop-index.index (parts_of c.args.other.now)) in
    let fits : length done + length c.part-part.result.now ≤ length c.args.other.now.block =
    (let few = concat-within (parts_of c.args.other.now) c.loop-index.index c.part-part.result.now c.part-part.ensures.value in
    let joined = ap length c.parts-count.ensures.joined in
    omega arith) in
    let room = c.requires in
    fills-room c.args.self.now c.loop-index.self c.args.at c.loop-index.place done c.part-part.result.now c.loop-index.invariant.filled c.loop-index.invariant.place (omega arith)

pub overflow_add-place : goal.overflow_add-place
overflow_add-place c =
    let done : List ℕ = concat (take c.loop-index.index (parts_of c.args.other.now)) in
    let few = concat-within (parts_of c.args.other.now) c.loop-index.index c.part-part.result.now c.part-part.ensures.value in
    let joined = ap length c.parts-count.ensures.joined in
    let room = c.requires in
    let fits : c.loop-index.place + length c.part-part.result.now ≤ length c.loop-index.self.block =
    fills-room c.args.self.now c.loop-index.self c.args.at c.loop-index.place done c.part-part.result.now c.loop-index.invariant.filled c.loop-index.invariant.place (omega arith) in
    let size : length c.fill.new.self.block ≡ length c.loop-index.self.block =
    ap (λ (i : ItemState). length i.block) c.fill.ensures.value ∙ length-with_part c.loop-index.place c.part-part.result.now c.loop-index.self.block fits in
    let most = block_most c.fill.new.self c.fill.ensures.is_item in
    omega arith

pub loop-index-preserved : goal.loop-index-preserved
loop-index-preserved c =
    let parts : List (List ℕ) = parts_of c.args.other.now in
    let done : List ℕ = concat (take c.loop-index.index parts) in
    let more : concat (take (c.loop-index.index + 1) parts) ≡ done ++ c.part-part.result.now = concat-more parts c.loop-index.index c.part-part.result.now c.part-part.ensures.value in
    let fits : length done + length c.part-part.result.now ≤ length c.args.other.now.block =
    (let few = concat-within parts c.loop-index.index c.part-part.result.now c.part-part.ensures.value in
    let joined = ap length c.parts-count.ensures.joined in
    omega arith) in
    let room = c.requires in
    let longer : length (done ++ c.part-part.result.now) ≡ length done + length c.part-part.result.now = length-append done c.part-part.result.now in
    let place = c.loop-index.invariant.place in
    let size = ap length more in
    record {
      place = omega arith;
      filled = c.fill.ensures.value
          ∙ fills-more c.args.self.now c.loop-index.self c.args.at c.loop-index.place done c.part-part.result.now _ c.loop-index.invariant.filled c.loop-index.invariant.place more (omega arith);
      is_item = λ _. c.fill.ensures.is_item;
    }

pub returns-clause-value : goal.returns-clause-value
returns-clause-value c = c.loop-index.invariant.filled
    ∙ ap (λ (b : List ℕ). record c.args.self.now { block = with_part c.args.self.now.block c.args.at b })
    (concat-all c.args.other.now c.parts-count.ensures.is_item c.loop-index.index (omega (arith, c.parts-count.ensures.value, c.loop-index-test.false)))

pub returns-clause-is_item : goal.returns-clause-is_item
returns-clause-is_item c =
    let count = c.parts-count.ensures.value in
    let some = c.parts-count.ensures.is_item.is_need.some in
    let end = c.loop-index-test.false in
    c.loop-index.invariant.is_item (omega arith)
