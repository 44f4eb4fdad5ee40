use Rattle.mc_shelf.proofs.Common.{◌∙◌, ap, counts_in, counts_of, Entry, get, ItemIsChanged, KeepsTable, same_Some, ShelfState, subst, sym}
use Rattle.mc_shelf.proofs.ShelfLemmas.{changed_put}
use Rattle.mc_shelf.proofs.CountLemmas.{changed_kept}
use Rattle.mc_shelf.proofs.shelf.Shelf.expire.Goals as goal

pub returns-in-Some-clause-put : goal.returns-in-Some-clause-put
returns-in-Some-clause-put c item found =
    let inside = c.self.inside in
    let key = c.args.key.now in
    let at = c.in-Some.ensures in
    let same = same_Some at.entry.item item (sym at.item ∙ ap (λ (s : ShelfState). get s.content.items key) c.self.view_is ∙ found) in
    changed_put inside.greatest inside.cut c.args.self.now.content inside.index (ap (λ (s : ShelfState). s.content) c.self.view_is) key c.args.hash c.set_expiry.new.self
    (record item { expiry = c.args.expiry }) c.requires.hash
    (subst (λ (i : Entry). ItemIsChanged inside.index c.set_expiry.new.self key i) (ap (λ (i : Entry). record i { expiry = c.args.expiry }) same) (c.set_expiry.ensures key at))

pub returns-in-Some-clause-table : goal.returns-in-Some-clause-table
returns-in-Some-clause-table c =
    let inside = c.self.inside in
    let at = c.in-Some.ensures in
    subst (λ (s : ShelfState). KeepsTable 0 (counts_of s) (counts_in c.set_expiry.new.self)) c.self.view_is
    (changed_kept inside.index c.set_expiry.new.self c.args.key.now (record at.entry.item { expiry = c.args.expiry }) (c.set_expiry.ensures c.args.key.now at))
