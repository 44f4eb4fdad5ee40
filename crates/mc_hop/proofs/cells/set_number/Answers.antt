use Rattle.std.proofs.Common.{set, ap, ◌∙◌, arith}
use Rattle.std.proofs.Math.Seq.{map-set_same}
use Rattle.std.proofs.lemmas.List.{map-set, get_or-map}
use Rattle.mc_hop.specs.declared.cells.Cell.{Cell}
use Rattle.mc_hop.proofs.cells.set_number.Goals as goal

pub returns-clause-numbers : goal.returns-clause-numbers
returns-clause-numbers c = map-set _ _ _ _ ∙ ap (set _ c.args.at) c.tag_number.ensures.number

pub returns-clause-tags : goal.returns-clause-tags
returns-clause-tags c =
    map-set_same _ _ _ _ c.index_mut.result.now
    (c.tag_number.ensures.tag ∙ c.tag_of-tag.ensures.value ∙ get_or-map _ _ c.args.at c.index_mut.result.now 0 (omega (arith, c.requires.inside, c.args.cells.now.ok.0)))

pub returns-clause-words : goal.returns-clause-words
returns-clause-words c = map-set_same _ _ _ _ c.index_mut.result.now (ap (λ (cell : Cell). cell.word) c.index_mut.ensures.value)
