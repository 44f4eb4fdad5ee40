use Rattle.mc_shared.proofs.Words.{rules, arith, ◌≤◌, length, sym, ◌∙◌, subst, ShelfState, HasPlaces, KeysAreCounted}
use Rattle.mc_shared.proofs.CountLemmas.{next_places, counts_next, counts_all}
use Rattle.mc_shared.proofs.count.count_boxes.Goals as goal

pub count_numbers-requires : goal.count_numbers-requires
count_numbers-requires c =
    subst (λ (s : ShelfState). HasPlaces s.content c.loop-shelf.counts) (sym (c.deref.ensures ∙ c.shelf.view_is))
    (next_places c.requires.0 c.requires.1 c.args.shelves.now c.requires.2 c.loop-shelf.counts c.loop-shelf.shelf-index c.shelf-item.result (search rules) c.shelf-item.is c.loop-shelf.invariant)

pub loop-shelf-preserved : goal.loop-shelf-preserved
loop-shelf-preserved c =
    counts_next c.args.shelves.now c.loop-shelf.counts _ c.loop-shelf.shelf-index c.shelf-item.result (search rules) c.shelf-item.is c.loop-shelf.invariant
    (subst (λ (s : ShelfState). KeysAreCounted s.content c.loop-shelf.counts c.count_numbers.new.counts) (c.deref.ensures ∙ c.shelf.view_is) c.count_numbers.ensures)

pub returns : goal.returns
returns c =
    let all : length c.args.shelves.now ≤ c.loop-shelf.shelf-index = search rules in
    let most = c.loop-shelf.auto.shelf-index-end in
    counts_all _ _ c.loop-shelf.shelf-index (omega (arith, all, most)) c.loop-shelf.invariant
