use Rattle.mc_shelf.proofs.Common.{refl}
use Rattle.mc_shelf.proofs.StoreLemmas.{shelf_here, goes_nowhere, kept_after, plain_after, left_after}
use Rattle.mc_shelf.proofs.store.Store.grow.Goals as goal

pub invariant_of-self : goal.invariant_of-self
invariant_of-self g c =
    let parts = c.self.invariant.parts in
    let settings = c.self.inside.parts.settings in
    let here = shelf_here settings parts c.if-shelf-self.true c.index_mut.ensures.value in
    record {
      parts = kept_after settings parts c.grow.new.self (goes_nowhere settings parts here c.grow.ensures.content refl);
      divides = c.self.invariant.divides;
    }

pub returns-then-shelf-self-clause-left : goal.returns-then-shelf-self-clause-left
returns-then-shelf-self-clause-left g c =
    let parts = c.self.invariant.parts in
    let s = c.self.inside.parts in
    let here = shelf_here s.settings parts c.if-shelf-self.true c.index_mut.ensures.value in
    let same = plain_after s.settings parts c.grow.new.self (goes_nowhere s.settings parts here c.grow.ensures.content refl) in
    let left = left_after s.shelves.items c.args.shelf c.grow.new.self c.grow.result here c.grow.ensures.left in
    rw (← c.self.view_is) (λ i. record { settings = s.settings; hasher = s.hasher; plain = same i; left = left i })
