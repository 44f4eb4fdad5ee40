use Rattle.std.proofs.Common.{set, ap, ◌∙◌}
use Rattle.std.proofs.Math.Seq.{map-set_same}
use Rattle.std.proofs.lemmas.List.{map-set}
use Rattle.mc_hop.specs.declared.cells.Cell.{Cell}
use Rattle.mc_hop.proofs.cells.set_tagged.Goals as goal

pub returns-clause-numbers : goal.returns-clause-numbers
returns-clause-numbers c = map-set _ _ _ _ ∙ ap (set _ c.args.at) c.tag_number.ensures.number

pub returns-clause-tags : goal.returns-clause-tags
returns-clause-tags c = map-set _ _ _ _ ∙ ap (set _ c.args.at) c.tag_number.ensures.tag

pub returns-clause-words : goal.returns-clause-words
returns-clause-words c = map-set_same _ _ _ _ c.index_mut.result.now (ap (λ (cell : Cell). cell.word) c.index_mut.ensures.value)
