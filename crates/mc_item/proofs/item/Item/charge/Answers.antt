use Rattle.std.proofs.Common.{◌+◌, ◌∙◌, sym, ap}
use Rattle.mc_item.specs.Items.{ItemState, charge_of}
use Rattle.mc_item.specs.Layout.{Header}
use Rattle.mc_item.proofs.RunLemmas.{charge_of-item_in}
use Rattle.mc_item.proofs.item.Item.charge.Goals as goal

pub returns-clause-value : goal.returns-clause-value
returns-clause-value c =
    rw (c.from.ensures, c.from-2.ensures, c.key_length_in.ensures, c.block_length_in.ensures)
    (ap (λ (h : Header). 48 + h.key_length + h.block_length) c.front-bytes.ensures.header ∙ sym (charge_of-item_in c.self.inside.chunks c.self.invariant)
    ∙ ap (λ (s : ItemState). charge_of s) c.self.view_is)
