use Rattle.std.proofs.Common.{refl, sym, subst, ◌∙◌}
use Rattle.mc_hop.proofs.ListLemmas.{same_Some}
use Rattle.mc_hop.proofs.LinkLemmas.{take_here, change_items}
use Rattle.mc_hop.proofs.cells.Cells.update.Goals as goal

pub replace_with-requires : goal.replace_with-requires
replace_with-requires g c =
    c.requires.may c.index_mut.result.now (take_here c.self.invariant c.self.view_is c.args.at c.requires.filled c.number_of-place.ensures refl c.index_mut.ensures.value)

pub returns : goal.returns
returns g c value there =
    let here = take_here c.self.invariant c.self.view_is c.args.at c.requires.filled c.number_of-place.ensures refl c.index_mut.ensures.value in
    let is = same_Some c.index_mut.result.now value (sym here ∙ there) in
    let items = change_items c.self.invariant c.self.view_is c.args.at c.requires.filled c.number_of-place.ensures refl c.replace_with.new.dest in (
      (c.replace_with.new.dest, c.replace_with.result),
      subst (λ (v : g.row.T.Denot). g.F.FnOnce.post c.args.change (v, tt) (c.replace_with.new.dest, c.replace_with.result)) is c.replace_with.ensures,
      refl,
      rw (items, ← c.self.view_is) refl,
    )
