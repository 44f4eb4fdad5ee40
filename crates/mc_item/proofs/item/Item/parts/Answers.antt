use Rattle.mc_item.proofs.RunLemmas.{concat-parts_of}
use Rattle.mc_item.proofs.item.Item.parts.Goals as goal

pub returns-clause-joined : goal.returns-clause-joined
returns-clause-joined c = concat-parts_of c.args.self.now c.need.ensures.is_item
