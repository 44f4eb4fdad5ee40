use Rattle.std.proofs.Common.{ap, ◌∙◌}
use Rattle.mc_hop.specs.Tables.{HopState, tag_in}
use Rattle.mc_hop.proofs.TableLemmas.{IsTagged-put, put_by_value, inside_by}
use Rattle.mc_hop.proofs.ContentLemmas.{content-put, not_found}
use Rattle.mc_hop.proofs.table.Hop.put_within.Goals as goal

pub invariant_of-self : goal.invariant_of-self
invariant_of-self g c =
    rw (c.put.ensures, c.set_word.ensures)
    (IsTagged-put _ _ _ _ c.self.invariant c.args.at _ c.args.entry _ (c.tag_of-tag.ensures.value ∙ ap tag_in c.hash.ensures)
    (put_by_value _ _ _ _ _ c.self.invariant.table _ _ _ _ _ c.self.view_is c.requires.of_entry c.requires.within.0 c.requires.within.1 c.requires.empty
    c.requires.new c.word-word.ensures c.with_bit.ensures.set c.with_bit.ensures.others))

pub returns-clause-content : goal.returns-clause-content
returns-clause-content g c =
    rw (c.put.ensures, c.set_word.ensures, ap (λ (s : HopState g.row.T.Denot). s.items) c.self.view_is)
    (content-put g.T.Keyed.hash_of g.T.Keyed.key_of c.args.self.now.items c.args.at c.args.entry
    (inside_by _ _ _ _ _ c.self.invariant.table _ _ _ _ c.self.view_is c.requires.of_entry c.requires.within.1) c.requires.empty
    (not_found _ _ _ _ _ c.requires.new))
