use Rattle.std.proofs.Common.{◌≡◌, ◌+◌, suc, length, refl, arith}
use Rattle.mc_hop.proofs.LinkLemmas.{put_linked, put_items, put_room}
use Rattle.mc_hop.proofs.cells.Cells.put.Goals as goal

pub push_reserved-requires : goal.push_reserved-requires
push_reserved-requires g c = omega (arith, put_room c.self.invariant c.self.view_is c.requires.inside c.requires.empty, c.self.inside.items.ok)

pub push_reserved-requires-2 : goal.push_reserved-requires-2
push_reserved-requires-2 g c = omega (arith, put_room c.self.invariant c.self.view_is c.requires.inside c.requires.empty, c.self.inside.places.ok)

pub set_tagged-requires-clause-small : goal.set_tagged-requires-clause-small
set_tagged-requires-clause-small g c =
    omega (arith, put_room c.self.invariant c.self.view_is c.requires.inside c.requires.empty, c.self.inside.items.ok, c.len-number.ensures)

pub invariant_of-self : goal.invariant_of-self
invariant_of-self g c =
    let number : c.len-number.result + 1 ≡ suc (length c.self.inside.items.items) = omega (arith, c.len-number.ensures, c.self.inside.items.ok) in
    rw (c.push_reserved.ensures.items, c.push_reserved-2.ensures.items, c.set_tagged.ensures.numbers, number)
    (rw (c.push_reserved.ensures.capacity, c.push_reserved-2.ensures.capacity) (put_linked c.self.invariant c.self.view_is c.requires.inside c.requires.empty c.args.value))

pub returns : goal.returns
returns g c =
    let number : c.len-number.result + 1 ≡ suc (length c.self.inside.items.items) = omega (arith, c.len-number.ensures, c.self.inside.items.ok) in
    let items = put_items c.self.invariant c.self.view_is c.requires.inside c.requires.empty c.args.value in
    rw (c.push_reserved.ensures.items, c.set_tagged.ensures.numbers, number, c.set_tagged.ensures.words, c.set_tagged.ensures.tags, items, ← c.self.view_is) refl
