use Rattle.std.proofs.Common.{sym, ◌∙◌, arith}
use Rattle.mc_hop.proofs.LinkLemmas.{filled_all, filled_most}
use Rattle.mc_hop.proofs.cells.Cells.count.Goals as goal

pub returns-clause-value : goal.returns-clause-value
returns-clause-value g c = c.len.ensures ∙ c.self.inside.items.ok.0 ∙ sym (filled_all c.self.invariant c.self.view_is)

pub returns-clause-most : goal.returns-clause-most
returns-clause-most g c = omega (arith, filled_most c.self.invariant c.self.view_is, c.len.ensures, c.self.inside.items.ok.0)
