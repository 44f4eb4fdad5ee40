use Rattle.mc_shared.proofs.Words.{rules, arith, ◌≡◌, Some, get_or, refl, ap, ◌∙◌, slice_get-get_or, flushed_none, flushed_more, flushed_all, out_before}
use Rattle.mc_shared.specs.Emptied.{cut_later}
use Rattle.mc_shared.proofs.LaterLemmas.{changed_more, changed_all}
use Rattle.mc_shared.proofs.flush.flush_boxes.Goals as goal

pub loop-shelf-init : goal.loop-shelf-init
loop-shelf-init c = (λ hash_of state count parts. flushed_none hash_of count c.args.delay c.args.now state parts, λ all. refl)

pub flush_box-stays-requires : goal.flush_box-stays-requires
flush_box-stays-requires c =
    let loop = c.loop-shelf in
    let same : get_or loop.shelves loop.shelf-index c.shelf-item.result ≡ c.deref_mut.result.now = search rules in
    let here = slice_get-get_or loop.shelves loop.shelf-index c.shelf-item.result (omega (arith, c.loop-shelf-test.true, loop.auto.shelves)) ∙ ap Some same in
    out_before c.requires.0 c.requires.2 c.args.delay c.args.now c.requires.1 (loop.invariant.0 c.requires.0 c.requires.1 c.requires.2 c.requires.3) here

pub loop-shelf-preserved : goal.loop-shelf-preserved
loop-shelf-preserved c =
    let loop = c.loop-shelf in
    let same : get_or loop.shelves loop.shelf-index c.shelf-item.result ≡ c.deref_mut.result.now = search rules in
    let here = slice_get-get_or loop.shelves loop.shelf-index c.shelf-item.result (omega (arith, c.loop-shelf-test.true, loop.auto.shelves)) ∙ ap Some same in (
      λ hash_of state count parts. flushed_more hash_of count c.args.delay c.args.now state (loop.invariant.0 hash_of state count parts) here c.flush_box-stays.new.shelf c.flush_box-stays.ensures.shelf c.flush_box-stays.ensures.desk,
      λ all.
          let so = c.both-all_stay.ensures all in
          changed_more (cut_later c.args.delay c.args.now) c.args.shelves.now loop.shelf-index c.deref_mut.result.now c.flush_box-stays.new.shelf (loop.invariant.1 so.0) here
          (c.flush_box-stays.ensures.stays so.1).0,
    )

pub returns-clause-parts : goal.returns-clause-parts
returns-clause-parts c hash_of state count parts =
    flushed_all hash_of count c.args.delay c.args.now state (omega (arith, c.loop-shelf-test.false, parts.number)) (c.loop-shelf.invariant.0 hash_of state count parts)

pub returns-clause-stay : goal.returns-clause-stay
returns-clause-stay c all =
    c.loop-shelf.invariant.1 all ∙ changed_all (cut_later c.args.delay c.args.now) c.loop-shelf.shelf-index c.args.shelves.now (omega (arith, c.loop-shelf-test.false))
