use Rattle.mc_shelf.proofs.Common.{◌∙◌, refl, sym}
use Rattle.mc_shelf.proofs.AsideLemmas.{none_last, off_last}
use Rattle.mc_shelf.proofs.aside.next_chunks.Goals as goal

pub returns-in-Some-take_next-clause-off : goal.returns-in-Some-take_next-clause-off
returns-in-Some-take_next-clause-off c =
    let loop = c.loop-shelf in
    let off = off_last loop.aside.items c.pop.new.self.items c.push_reserved.new.self.items c.in-Some.shelf c.take_next.new.self
    c.in-Some-take_next.entry c.into_chunks.result c.in-Some.ensures.items c.push_reserved.ensures.items c.in-Some-take_next.ensures.some c.into_chunks.ensures.need
    c.into_chunks.ensures.is_need in
    record { is_need = off.is_need; counts = λ class. off.counts class ∙ loop.invariant class }

pub loop-shelf-preserved : goal.loop-shelf-preserved
loop-shelf-preserved c class =
    let loop = c.loop-shelf in
    sym (none_last loop.aside.items c.pop.new.self.items c.in-Some.shelf c.in-Some.ensures.items (c.in_default-take_next.ensures.none refl) class)
    ∙ loop.invariant class
