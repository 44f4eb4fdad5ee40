use Rattle.mc_shelf.proofs.Common.{◌∙◌, ◌≡◌, ◌≤◌, ap, arith, charge, charge_of, EntryState, length, refl, size_in, subst, sym, ℕ}
use Rattle.mc_item.specs.Items.{item_need}
use Rattle.mc_shelf.proofs.NeedLemmas.{same_need_fits}
use Rattle.mc_protocol.specs.Plain as plain
use Rattle.mc_shelf.proofs.entry.Entry.rewrite.Goals as goal

pub rewrite-requires-clause-room : goal.rewrite-requires-clause-room
rewrite-requires-clause-room c =
    let item = c.self.inside.item in
    let same = c.requires.need
    ∙ sym
    (subst
    (λ (e : EntryState). plain.item_need item.key
    (record { flags = item.flags; expiry = item.expiry; block = item.block; unique = item.unique; updated = item.updated }) ≡ plain.item_need e.key e.item) c.self.view_is refl) in
    let size = charge c.args.parts.now.key.now c.args.block.now in
    let fits : size ≤ size_in (item_need item) = same_need_fits (item_need item) (charge_of item) size c.self.invariant (sym same) in
    let block = ap (length {A = ℕ}) c.as_slice.ensures in
    omega (arith, fits, block)
