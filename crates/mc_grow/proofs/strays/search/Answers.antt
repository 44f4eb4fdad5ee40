use Rattle.mc_grow.proofs.Words.{◌+◌, ◌-◌, ◌/◌, ◌<◌, ◌∷◌, ◌∙◌, length, arith}
use Rattle.std.proofs.lemmas.Map.Lookups.{exact_bytes}
use Rattle.mc_grow.proofs.OrderLemmas.{all_before, all_behind, compared, less_to_read, many_keys}
use Rattle.mc_grow.proofs.strays.search.Goals as goal

pub loop-low-init : goal.loop-low-init
loop-low-init g c = record {
  range = omega arith;
  inside = omega (arith, c.len-high.ensures, c.args.order.now.ok.0);
  before = λ p l. absurd (omega (arith, l));
  behind = λ p l m. absurd (omega (arith, l, m, c.len-high.ensures, c.args.order.now.ok.0));
  reads = λ digits l. (digits, omega (arith, l, c.len-high.ensures, c.args.order.now.ok.0, c.requires.same_length, many_keys g.T.Keyed.hash_of g.T.Keyed.key_of c.args.items.now.items), omega arith);
}

pub loop-low-preserved-in-Less : goal.loop-low-preserved-in-Less
loop-low-preserved-in-Less g c =
    let w = c.loop-low in
    let middle = w.low + (w.high - w.low) / 2 in
    let inside : middle < length c.args.order.now.items = omega (arith, c.loop-low-test.true, w.invariant.inside) in
    let its = compared g.T.Keyed.hash_of g.T.Keyed.key_of c.args.items.now.items c.requires (c.args.hash ∷ c.args.key.now) inside c.index.ensures c.index-in-loop-low.ensures c.compare.ensures.order in
    record {
      range = omega (arith, c.loop-low-test.true);
      inside = w.invariant.inside;
      before = all_before _ _ c.requires middle (c.args.hash ∷ c.args.key.now) inside (its ∙ c.in-Less.is);
      behind = w.invariant.behind;
      reads = less_to_read _ _ _ _ _ _ w.invariant.reads (omega (arith, c.loop-low-test.true)) (omega arith) c.compare.ensures.reads;
    }

pub loop-low-preserved : goal.loop-low-preserved
loop-low-preserved g c =
    let w = c.loop-low in
    let middle = w.low + (w.high - w.low) / 2 in
    let inside : middle < length c.args.order.now.items = omega (arith, c.loop-low-test.true, w.invariant.inside) in
    let its = compared g.T.Keyed.hash_of g.T.Keyed.key_of c.args.items.now.items c.requires (c.args.hash ∷ c.args.key.now) inside c.index.ensures c.index-in-loop-low.ensures c.compare.ensures.order in
    record {
      range = omega arith;
      inside = omega (arith, inside);
      before = w.invariant.before;
      behind = all_behind _ _ c.requires middle (c.args.hash ∷ c.args.key.now) (its ∙ c.in-Greater.is);
      reads = less_to_read _ _ _ _ _ _ w.invariant.reads (omega (arith, c.loop-low-test.true)) (omega arith) c.compare.ensures.reads;
    }

pub returns-in-Equal-clause-found : goal.returns-in-Equal-clause-found
returns-in-Equal-clause-found g c =
    let inside : c.loop-low.low + (c.loop-low.high - c.loop-low.low) / 2 < length c.args.order.now.items = omega (arith, c.loop-low-test.true, c.loop-low.invariant.inside) in
    let its = compared g.T.Keyed.hash_of g.T.Keyed.key_of c.args.items.now.items c.requires (c.args.hash ∷ c.args.key.now) inside c.index.ensures c.index-in-loop-low.ensures c.compare.ensures.order in
    (inside, exact_bytes _ _ (its ∙ c.in-Equal.is))

pub returns-clause-none : goal.returns-clause-none
returns-clause-none g c = record { inside = omega arith; before = c.loop-low.invariant.before; behind = λ p l m. c.loop-low.invariant.behind p (omega (arith, l, c.loop-low-test.false)) m }
