use Rattle.std.proofs.Common.{refl, sym, ◌∙◌}
use Rattle.std.proofs.lemmas.List.{length-set}
use Rattle.std.proofs.lemmas.Option.{slice_get_read}
use Rattle.mc_guests.proofs.JudgeLemmas.{within_shown}
use Rattle.mc_guests.proofs.LeftLemmas.{recounts_set}
use Rattle.mc_guests.proofs.row.GuestRow.uncount_left_at.Goals as goal

pub invariant_of-self : goal.invariant_of-self
invariant_of-self g c = c.self.invariant ∙ sym (length-set c.self.inside.guests.items c.args.at c.uncount_left.new.self)

pub returns-clause-counts : goal.returns-clause-counts
returns-clause-counts g c =
    let items = c.self.inside.guests.items in
    let within = within_shown c.args.at _ c.args.self.now c.self.view_is c.requires in
    let stands = slice_get_read items _ c.args.at c.index_mut.result.now refl within c.index_mut.ensures.value in
    let same = ◌∙◌ {b = c.behind-self.inside.inner.value} c.deref_mut.ensures.value c.behind-self.view_is in
    recounts_set c.args.at 0 c.index_mut.result.now c.deref_mut.result.now c.uncount_left.new.self c.self.inside.numbers items
    c.args.self.now c.args.budget.now c.uncount_left.new.budget c.self.view_is stands same c.uncount_left.ensures.counts
