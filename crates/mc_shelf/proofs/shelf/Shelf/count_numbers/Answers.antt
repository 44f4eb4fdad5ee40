use Rattle.mc_shelf.proofs.Common.{◌%◌, ◌-◌, ◌<◌, ◌^◌, ◌∙◌, ap, HasPlaces, KeysAreCounted, ShelfState, slice_index, subst, sym}
use Rattle.mc_shelf.proofs.NumberLemmas.{all_counted, counts_fit, counts_next, counts_zero, none_counted, raised}
use Rattle.mc_shelf.proofs.shelf.Shelf.count_numbers.Goals as goal

pub returns-then-is_empty : goal.returns-then-is_empty
returns-then-is_empty c =
    none_counted c.args.self.now.content c.args.counts.now
    (sym (ap (λ (s : ShelfState). s.content.items) c.self.view_is) ∙ c.is_empty.ensures.items c.if-is_empty.true) c.requires.many

pub count_one-requires-clause-room : goal.count_one-requires-clause-room
count_one-requires-clause-room c =
    let inside = c.self.inside in
    let first = c.in-Some.ensures.next in
    let e = first.filled.0 in
    let there = first.filled.1 in
    let places = subst (λ (s : ShelfState). HasPlaces s.content c.args.counts.now) (sym c.self.view_is) c.requires in
    let none = counts_zero inside.greatest inside.cut inside.index c.in-Some.ensures.keyed c.args.counts.now places c.in-Some.place.number e there in
    subst (λ hash. slice_index c.loop-number.counts (hash % 4096) < 2 ^ 64 - 1) (sym (c.hash_at.ensures e there))
    (counts_fit inside.index c.loop-number.at c.in-Some.number c.in-Some.place first e there c.args.counts.now c.loop-number.counts c.loop-number.invariant none)

pub loop-number-preserved : goal.loop-number-preserved
loop-number-preserved c =
    let first = c.in-Some.ensures.next in
    let e = first.filled.0 in
    let there = first.filled.1 in
    counts_next c.self.inside.index c.loop-number.at c.in-Some.number c.in-Some.place first e there c.args.counts.now c.loop-number.counts c.count_one.new.counts c.loop-number.invariant
    (c.count_one.ensures ∙ ap (λ hash. raised c.loop-number.counts (hash % 4096)) (c.hash_at.ensures e there))

pub returns : goal.returns
returns c =
    let inside = c.self.inside in
    subst (λ (s : ShelfState). KeysAreCounted s.content c.args.counts.now c.loop-number.counts) c.self.view_is
    (all_counted inside.greatest inside.cut inside.index c.in_default.ensures.keyed c.is_empty.ensures.once c.loop-number.at c.in_default.ensures.next c.args.counts.now c.loop-number.counts
    c.loop-number.invariant)
