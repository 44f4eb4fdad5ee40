use Rattle.mc_shared.proofs.Words.{rules, arith, ◌≡◌, Some, get_or, [], ◌∷◌, ◌++◌, ap, ◌∙◌, slice_get-get_or, IsBare, All-pop}
use Rattle.mc_shared.proofs.EmptyLemmas.{at_most_one, emptied_all, emptied_more}
use Rattle.mc_shared.proofs.flush.empty_boxes.Goals as goal

pub returns : goal.returns
returns c = emptied_all c.loop-shelf.invariant.to (omega (arith, c.loop-shelf-test.false, c.loop-shelf.invariant.to.number))

pub loop-shelf-preserved : goal.loop-shelf-preserved
loop-shelf-preserved c =
    let loop = c.loop-shelf in
    let inv = loop.invariant in
    let same : get_or loop.shelves loop.shelf-index c.shelf-item.result ≡ c.deref_mut.result.now = search rules in
    let here = slice_get-get_or loop.shelves loop.shelf-index c.shelf-item.result (omega (arith, c.loop-shelf-test.true, loop.auto.shelves)) ∙ ap Some same in
    record {
      many = omega (arith, inv.many, c.pop.ensures.len, at_most_one c.pop.result);
      bare = (All-pop IsBare loop.bare.items c.pop.new.self.items c.pop.result c.pop.ensures.items inv.bare).0;
      room = omega (arith, inv.room, c.push_reserved.ensures.capacity);
      so_far = omega (arith, inv.so_far, c.push_reserved.ensures.len);
      to = emptied_more inv.to c.emptied_by.new.self here c.emptied_by.ensures.bare
          (c.push_reserved.ensures.items ∙ ap (λ x. loop.aside.items ++ x ∷ []) c.emptied_by.ensures.before);
    }
