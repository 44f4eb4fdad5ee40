use Rattle.mc_shelf.proofs.Common.{◌<◌, all_out, SlabState, subst}
use Rattle.mc_shelf.proofs.AsideLemmas.{collected_both, fewer_own}
use Rattle.mc_shelf.proofs.collector.collect_next.Goals as goal

pub returns-then-collect_of-clause-fewer : goal.returns-then-collect_of-clause-fewer
returns-then-collect_of-clause-fewer c = λ _. fewer_own c.requires.1.is_slab (c.collect_of.ensures.own c.if-collect_of.true)

pub collect_one-requires : goal.collect_one-requires
collect_one-requires c = (c.requires.0, c.collect_of.ensures.collected.lie c.requires.0 c.requires.1)

pub returns-clause-collected : goal.returns-clause-collected
returns-clause-collected c = collected_both c.collect_of.ensures.collected c.collect_one.ensures.collected

pub returns-clause-fewer : goal.returns-clause-fewer
returns-clause-fewer c = λ e.
    subst (λ (s : SlabState). all_out c.collect_one.new.slab < all_out s) (c.collect_of.ensures.none c.if-collect_of.false) (c.collect_one.ensures.fewer e)
