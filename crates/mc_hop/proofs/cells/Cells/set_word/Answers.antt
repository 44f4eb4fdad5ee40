use Rattle.mc_hop.proofs.cells.Cells.set_word.Goals as goal

pub invariant_of-self : goal.invariant_of-self
invariant_of-self g c = rw c.set_word_in.ensures.numbers c.self.invariant

pub returns : goal.returns
returns g c = rw (c.set_word_in.ensures.words, c.set_word_in.ensures.tags, c.set_word_in.ensures.numbers, ← c.self.view_is)
