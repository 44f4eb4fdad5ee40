use Rattle.std.proofs.Common.{refl, arith}
use Rattle.mc_hop.specs.Links.{ats_of}
use Rattle.mc_hop.proofs.ListLemmas.{swapped}
use Rattle.mc_hop.proofs.LinkLemmas.{used-le, take_linked, take_items, take_here}
use Rattle.mc_hop.proofs.cells.Cells.take.Goals as goal

pub renumber-requires-clause-small : goal.renumber-requires-clause-small
renumber-requires-clause-small g c = omega (arith, used-le (ats_of c.self.inside.cells.items))

pub invariant_of-self : goal.invariant_of-self
invariant_of-self g c =
    rw (c.renumber.ensures.numbers, c.set_number.ensures.numbers, c.swap_remove-value.ensures.capacity, c.swap_remove.ensures.capacity)
    (take_linked c.self.invariant c.self.view_is c.args.at c.requires c.number_of-place.ensures refl
    (swapped c.self.inside.items.ok.0 c.swap_remove-value.new.self.ok.0 c.swap_remove-value.ensures.len c.swap_remove-value.ensures.by_index)
    (swapped c.self.inside.places.ok.0 c.swap_remove.new.self.ok.0 c.swap_remove.ensures.len c.swap_remove.ensures.by_index))

pub returns-clause-here : goal.returns-clause-here
returns-clause-here g c = take_here c.self.invariant c.self.view_is c.args.at c.requires c.number_of-place.ensures refl c.swap_remove-value.ensures.value

pub returns-clause-taken : goal.returns-clause-taken
returns-clause-taken g c =
    let items = take_items c.self.invariant c.self.view_is c.args.at c.requires c.number_of-place.ensures refl
    (swapped c.self.inside.items.ok.0 c.swap_remove-value.new.self.ok.0 c.swap_remove-value.ensures.len c.swap_remove-value.ensures.by_index)
    (swapped c.self.inside.places.ok.0 c.swap_remove.new.self.ok.0 c.swap_remove.ensures.len c.swap_remove.ensures.by_index) in
    rw (c.renumber.ensures.words, c.set_number.ensures.words, c.renumber.ensures.tags, c.set_number.ensures.tags)
    (rw (c.renumber.ensures.numbers, c.set_number.ensures.numbers, items, ← c.self.view_is) refl)
