use Rattle.mc_shelf.proofs.Common.{◌∙◌, ap, Entry, Items, len, len-empty, ShelfState, subst, sym}
use Rattle.mc_shelf.specs.Counts.{AreReclaimed}
use Rattle.mc_shelf.proofs.CountLemmas.{counted_before}
use Rattle.mc_shelf.proofs.KeyLemmas.{order}
use Rattle.mc_shelf.proofs.shelf.Shelf.emptied_by.Goals as goal

pub returns-clause-reclaimed : goal.returns-clause-reclaimed
returns-clause-reclaimed c =
    let none = ap (λ (s : ShelfState). len s.content.items) c.bare.view_is ∙ ap (λ (i : Items). len i) c.requires.0 ∙ len-empty order Entry in
    subst (λ (s : ShelfState). AreReclaimed c.args.self.now s) (sym c.replace.ensures.after)
    (counted_before c.counted_up-reclaimed.ensures (c.len.ensures.count ∙ ap (λ (s : ShelfState). len s.content.items) c.self.view_is) (sym none)
    (ap (λ (s : ShelfState). s.reclaimed) c.self.view_is))
