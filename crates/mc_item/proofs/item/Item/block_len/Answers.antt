use Rattle.std.proofs.Common.{◌≡◌, ◌∙◌, length, sym, ap, arith}
use Rattle.mc_item.specs.Items.{ItemState}
use Rattle.mc_item.specs.Layout.{block_length_in, Header}
use Rattle.mc_item.proofs.RunLemmas.{chunks_most, length-block_in}
use Rattle.mc_item.proofs.item.Item.block_len.Goals as goal

pub returns-clause-value : goal.returns-clause-value
returns-clause-value c = c.block_length_in.ensures ∙ ap (λ (h : Header). h.block_length) c.front.ensures.header
    ∙ sym (length-block_in c.self.inside.chunks c.self.invariant)
    ∙ ap (λ (s : ItemState). length s.block) c.self.view_is

pub returns-clause-most : goal.returns-clause-most
returns-clause-most c =
    let most = chunks_most c.self.inside.chunks c.self.invariant.are in
    let room = c.self.invariant.room in
    let size : c.block_length_in.result ≡ block_length_in c.self.inside.chunks.head = c.block_length_in.ensures ∙ ap (λ (h : Header). h.block_length) c.front.ensures.header in
    omega arith
