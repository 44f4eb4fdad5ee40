use Rattle.mc_shelf.proofs.Common.{arith}
use Rattle.std.proofs.lemmas.Option.{slice_get-get_or}
use Rattle.mc_shelf.proofs.FlushLemmas.{flushed_none, flushed_more, flushed_all, out_before}
use Rattle.mc_shelf.proofs.LeftLemmas.{rises_never}
use Rattle.mc_shelf.proofs.parts.flush_parts.Goals as goal

pub loop-shelf-init : goal.loop-shelf-init
loop-shelf-init c = record {
  parts = λ hash_of state count parts. flushed_none hash_of count c.args.delay c.args.now state parts;
  left = λ k. omega arith;
}

pub flush-requires : goal.flush-requires
flush-requires c =
    let loop = c.loop-shelf in
    let here = slice_get-get_or loop.shelves loop.shelf-index c.shelf-item.result (omega (arith, c.loop-shelf-test.true, loop.auto.shelves)) in
    out_before c.requires.0 c.requires.2 c.args.delay c.args.now c.requires.1 (loop.invariant.parts c.requires.0 c.requires.1 c.requires.2 c.requires.3) here

pub loop-shelf-preserved : goal.loop-shelf-preserved
loop-shelf-preserved c =
    let loop = c.loop-shelf in
    let here = slice_get-get_or loop.shelves loop.shelf-index c.shelf-item.result (omega (arith, c.loop-shelf-test.true, loop.auto.shelves)) in
    record {
      parts = λ hash_of state count parts. flushed_more hash_of count c.args.delay c.args.now state (loop.invariant.parts hash_of state count parts) here c.flush.new.self
          c.flush.ensures.shelf c.flush.ensures.desk;
      left = rises_never c.args.shelves.now loop.shelves loop.shelf-index c.flush.new.self here loop.invariant.left c.flush.ensures.table.less;
    }

pub returns-clause-parts : goal.returns-clause-parts
returns-clause-parts c hash_of state count parts =
    flushed_all hash_of count c.args.delay c.args.now state (omega (arith, c.loop-shelf-test.false, parts.number))
    (c.loop-shelf.invariant.parts hash_of state count parts)
