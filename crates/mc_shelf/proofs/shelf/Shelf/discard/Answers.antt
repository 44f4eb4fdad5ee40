use Rattle.mc_shelf.proofs.Common.{◌∙◌, ap, EntryState, key_of, same_Some, ShelfState, sym}
use Rattle.mc_shelf.proofs.ShelfLemmas.{removed_dropped}
use Rattle.mc_shelf.proofs.shelf.Shelf.discard.Goals as goal

pub returns-in-Some-clause-dropped : goal.returns-in-Some-clause-dropped
returns-in-Some-clause-dropped c item found =
    let inside = c.self.inside in
    let here = c.in-Some.ensures in
    let same = ap (λ (e : EntryState). e.key) (same_Some c.remove-entry.result here.entry (sym c.remove-entry.ensures.there ∙ here.there)) ∙ here.same_key ∙ c.key.ensures in
    removed_dropped inside.greatest inside.cut c.args.self.now.content inside.index (ap (λ (s : ShelfState). s.content) c.self.view_is) (key_of c.args.step.now) c.args.hash c.remove-entry.new.self
    c.remove-entry.result.key same c.remove-entry.ensures.removed
