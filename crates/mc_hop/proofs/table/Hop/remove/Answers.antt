use Rattle.std.proofs.Common.{ap, ◌∙◌, get_or}
use Rattle.mc_hop.specs.Cells.{CellsState}
use Rattle.mc_hop.specs.Tables.{HopState, home_in}
use Rattle.mc_hop.proofs.TableLemmas.{IsTagged-remove, remove_by_value}
use Rattle.mc_hop.proofs.ContentLemmas.{content-remove, content-back, gone_after}
use Rattle.mc_hop.proofs.table.Hop.remove.Goals as goal

pub invariant_of-self : goal.invariant_of-self
invariant_of-self g c =
    rw (c.set_word.ensures, c.take-entry.ensures.taken)
    (IsTagged-remove _ _ _ _ c.self.invariant c.args.at _
    (remove_by_value _ _ _ _ _ c.self.invariant.table _ _ _ _ (c.home_among-home.ensures.value ∙ ap (home_in c.self.inside.k) c.hash.ensures) c.take-entry.ensures.here
    (c.word-word.ensures ∙ ap (λ (s : CellsState g.row.T.Denot). get_or s.words c.home_among-home.result 0) c.take-entry.ensures.taken) c.without_bit.ensures.clear c.without_bit.ensures.others))

pub returns-clause-content : goal.returns-clause-content
returns-clause-content g c =
    rw (c.set_word.ensures, c.take-entry.ensures.taken, ← ap (λ (s : HopState g.row.T.Denot). s.items) c.self.view_is)
    (content-remove g.T.Keyed.hash_of g.T.Keyed.key_of c.self.inside.cells.items c.args.at c.take-entry.result c.self.invariant.table.apart c.take-entry.ensures.here)

pub returns-clause-gone : goal.returns-clause-gone
returns-clause-gone g c =
    rw (c.set_word.ensures, c.take-entry.ensures.taken)
    (gone_after g.T.Keyed.hash_of g.T.Keyed.key_of c.self.inside.cells.items c.args.at c.take-entry.result c.self.invariant.table.apart c.take-entry.ensures.here)

pub returns-clause-back : goal.returns-clause-back
returns-clause-back g c =
    rw (c.set_word.ensures, c.take-entry.ensures.taken, ← ap (λ (s : HopState g.row.T.Denot). s.items) c.self.view_is)
    (content-back g.T.Keyed.hash_of g.T.Keyed.key_of c.self.inside.cells.items c.args.at c.take-entry.result c.self.invariant.table.apart c.take-entry.ensures.here)
