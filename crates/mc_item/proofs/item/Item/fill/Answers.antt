use Rattle.mc_item.proofs.RunLemmas.{IsItem-item_in}
use Rattle.mc_item.proofs.item.Item.fill.Goals as goal

pub returns-clause-is_item : goal.returns-clause-is_item
returns-clause-is_item c = IsItem-item_in _ c.write_block.ensures.holds
