use Rattle.mc_shelf.proofs.Common.{◌∙◌, arith, parts_of, sym}
use Rattle.mc_shelf.proofs.PartsLemmas.{blank_off, blank_past, parts_count}
use Rattle.mc_shelf.proofs.entry.Entry.ends_blank.Goals as goal

pub returns-then-not-is_blank : goal.returns-then-not-is_blank
returns-then-not-is_blank c =
    sym (c.loop-at.invariant ∙ blank_off (parts_of c.args.self.now.key c.args.self.now.item) c.loop-at.at c.part.result.now c.part.ensures.value (sym c.is_blank.ensures ∙ c.if-not-is_blank.true))

pub returns : goal.returns
returns c =
    let count = parts_count c.args.self.now.key c.args.self.now.item c.parts-at-end.ensures.is_need.some in
    let past = c.loop-at-test.false in
    sym (c.loop-at.invariant ∙ blank_past (parts_of c.args.self.now.key c.args.self.now.item) c.loop-at.at (omega (arith, count, past, c.parts-at-end.ensures.value)))
