use Rattle.mc_shelf.proofs.Common.{◌++◌, ◌≡◌, ◌≤◌, arith, charge, charge_of, EntryState, length-append, size_in, subst, sym}
use Rattle.mc_item.specs.Items.{item_need}
use Rattle.mc_shelf.proofs.NeedLemmas.{same_need_fits}
use Rattle.mc_protocol.specs.Plain as plain
use Rattle.mc_shelf.proofs.entry.Entry.extend.Goals as goal

pub extend-requires : goal.extend-requires
extend-requires c =
    let item = c.self.inside.item in
    let more = c.args.more.now in
    let same : plain.item_need item.key (record { flags = item.flags; expiry = item.expiry; block = item.block; unique = item.unique; updated = item.updated })
    ≡ plain.block_need item.key (item.block ++ more) =
    subst (λ (e : EntryState). plain.item_need e.key e.item ≡ plain.block_need e.key (e.item.block ++ more)) (sym c.self.view_is) c.requires in
    let fits : charge item.key (item.block ++ more) ≤ size_in (item_need item) = same_need_fits (item_need item) (charge_of item) (charge item.key (item.block ++ more)) c.self.invariant same in
    omega (arith, fits, length-append item.block more)
