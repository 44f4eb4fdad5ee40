use Rattle.mc_shared.proofs.Words.{List, ℕ, [], ◌++◌, ◌≤◌, ◌∙◌, arith, length, parts_of}
use Rattle.mc_shared.proofs.HitLemmas.{concat-eight, length-parts_of}
use Rattle.mc_shared.proofs.telling.parts_of.Goals as goal

pub returns : goal.returns
returns c =
    let hit = c.args.hit.now in
    let parts : List (List ℕ) = parts_of hit.key hit.item in
    let counted = c.parts-count.ensures.value in
    let range = c.parts-count.ensures.range in
    let as_many = length-parts_of hit.key hit.item (omega arith) in
    let few : length parts ≤ 8 = omega arith in
    (λ i. c.part_at.ensures i ++ (c.part_at-2.ensures i ++ (c.part_at-3.ensures i ++ (c.part_at-4.ensures i ++ (c.part_at-5.ensures i
    ++ (c.part_at-6.ensures i ++ (c.part_at-7.ensures i ++ (c.part_at-8.ensures i ++ [])))))))) ∙ concat-eight parts few ∙ c.parts-count.ensures.joined
