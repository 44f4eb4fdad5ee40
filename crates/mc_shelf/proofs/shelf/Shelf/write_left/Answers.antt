use Rattle.mc_shelf.proofs.Common.{◌∙◌, ◌≡◌, Action, ap, block_beside, block_in, block_of, ChunksState, EntryState, get, hashes_of, item_in, item_of, ItemIsChanged, key_of, List, made_block}
use Rattle.mc_shelf.proofs.Common.{Option, ShelfState, Some, subst, sym, with_item, written_next, ℕ}
use Rattle.mc_shelf.specs.Plans.{CanWriteLeft}
use Rattle.mc_shelf.proofs.ShelfLemmas.{moved_is}
use Rattle.mc_shelf.proofs.shelf.Shelf.write_left.Goals as goal

pub returns-in-Some-place-2-clause-content : goal.returns-in-Some-place-2-clause-content
returns-in-Some-place-2-clause-content c =
    let inside = c.self.inside in
    let plan = c.args.plan.now in
    let left = c.in-Left in
    let step = c.args.step.now in
    let old = c.args.self.now.content in
    let key = key_of step in
    let item = item_of left.flags left.expiry (block_beside old step left.body) left.unique plan.moment in
    let here = c.in-Some-place-2.ensures in
    let parts = c.bare_parts-parts.ensures in
    let named : c.bare_parts-parts.result.key.now ≡ key = parts.key ∙ c.key.ensures in
    let beside : block_in (item_in c.found_entry-old.result) ≡ block_in (get old.items key) =
    ap block_in ((c.found_entry-old.ensures c.bare_parts-parts.result.key.now c.find_again-place.ensures).item
    ∙ ap (λ (s : ShelfState). get s.content.items c.bare_parts-parts.result.key.now) c.self.view_is
    ∙ ap (λ (k : List ℕ). get old.items k) named) in
    let entry : c.entry_in-entry.result ≡ record { hash = plan.hash; key = key; item = item } =
    c.entry_in-entry.ensures ∙ (λ i. record {
      hash = parts.hash i;
      key = named i;
      item = item_of (parts.flags i) (parts.expiry i) (made_block left.body (block_of step) (beside i)) (parts.unique i) (parts.updated i);
    }) in
    let stood : get old.hashes key ≡ Some here.entry.hash =
    sym (ap (λ (s : ShelfState). get s.content.hashes key) c.self.view_is) ∙ ap (λ (k : List ℕ). get (hashes_of inside.index) k) (sym named) ∙ here.hash in
    moved_is inside.greatest inside.cut old inside.index (ap (λ (s : ShelfState). s.content) c.self.view_is) key plan.hash c.replace.new.self c.in-Some.chunks item
    (stood ∙ ap Some ((subst (λ (n : Action). CanWriteLeft plan n step c.args.self.now) left.is c.requires).sought.hash here.entry.hash stood))
    (subst (λ (e : EntryState). ItemIsChanged inside.index c.replace.new.self e.key e.item) entry c.replace.ensures.changed)
    ∙ ap (λ (chunks : Option ChunksState). with_item chunks key plan.hash item old) (sym c.in-Some.is)
    ∙ ap (λ (n : Action). written_next plan n step old) (sym left.is)
