use Rattle.mc_shelf.proofs.Common.{◌<◌, AreOff, List, refl, rules, set, ShelfState, slice_get_read, subst, vec_len}
use Rattle.mc_shelf.proofs.AsideLemmas.{off_at}
use Rattle.mc_shelf.proofs.aside.chunks_of.Goals as goal

pub returns-in-Some-clause-off : goal.returns-in-Some-clause-off
returns-in-Some-clause-off c =
    let loop = c.loop-shelf in
    let inside : loop.shelf < vec_len loop.aside = search rules in
    let here = slice_get_read loop.aside.items (vec_len loop.aside) loop.shelf c.index_mut.result.now loop.aside.ok.0 inside c.index_mut.ensures.value in
    let after = set loop.aside.items loop.shelf c.take_of.new.self in
    let off = off_at loop.aside.items after loop.shelf c.index_mut.result.now c.take_of.new.self c.in-Some.entry c.into_chunks.result here refl
    c.in-Some.ensures.some c.into_chunks.ensures.need c.into_chunks.ensures.is_need in
    subst (λ (l : List ShelfState). AreOff l after c.into_chunks.result) loop.invariant off
