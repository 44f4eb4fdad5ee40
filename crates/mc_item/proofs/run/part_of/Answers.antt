use Rattle.std.proofs.Common.{◌≡◌, ◌+◌, ◌-◌, take, drop, refl, Some, sym, ap, ◌∙◌}
use Rattle.mc_item.specs.Layout.{block_in}
use Rattle.mc_item.proofs.RunLemmas.{block-below, one_below, part-lone}
use Rattle.mc_item.proofs.run.part_of.Goals as goal

pub returns-then-has_head_beside-clause-lone : goal.returns-then-has_head_beside-clause-lone
returns-then-has_head_beside-clause-lone c = λ one.
    let whole = part-lone c.args.chunks.now c.args.at c.requires.item one c.requires.place in
    let part = c.part_from_begin.ensures in
    cc

block : (c : goal.After-result-1)
    → take (48 + c.key_length_in.result + c.block_length_in.result - (48 + c.key_length_in.result)) (drop (48 + c.key_length_in.result) c.front-head.result.now) ≡ block_in c.args.chunks.now
block c = block-below c.args.chunks.now c.front-head.result.now _ _ c.requires.item (c.if-has_head_beside.ensures.begins refl) c.front-head.ensures.value c.key_length_in.ensures c.block_length_in.ensures

pub returns-clause-value : goal.returns-clause-value
returns-clause-value c =
    let one = one_below c.args.chunks.now c.requires.item.are (c.if-has_head_beside.ensures.begins refl) in
    part-lone c.args.chunks.now c.args.at c.requires.item one c.requires.place ∙ ap Some (sym (block c))

pub returns-clause-lone : goal.returns-clause-lone
returns-clause-lone c = λ _. block c
