use Rattle.mc_shared.proofs.Words.{sym, ◌∙◌, arith, parts_of}
use Rattle.mc_shared.proofs.HitLemmas.{length-parts_of, none_behind}
use Rattle.mc_shared.proofs.telling.part_at.Goals as goal

pub returns-else-at-parts : goal.returns-else-at-parts
returns-else-at-parts c =
    let hit = c.args.hit.now in
    let counted = c.parts.ensures.value in
    let range = c.parts.ensures.range in
    let as_many = length-parts_of hit.key hit.item (omega arith) in
    let behind = c.if-at-parts.false in
    c.of.ensures ∙ c.as_slice.ensures ∙ sym (none_behind (parts_of hit.key hit.item) c.args.at (omega arith))
