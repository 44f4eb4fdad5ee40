use Rattle.mc_grow.proofs.Words.{Option, None, get_or, ap, ◌∙◌, HopState, drained_items}
use Rattle.mc_grow.proofs.parts.update_drained.Goals as goal

pub update-requires-clause-keeps : goal.update-requires-clause-keeps
update-requires-clause-keeps g c entry there =
    c.requires.keeps entry (ap (λ (o : Option (HopState g.row.T.Denot)). get_or (drained_items o) c.args.at None) c.in-Some.is ∙ there)
