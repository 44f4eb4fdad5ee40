use Rattle.std.proofs.Common.{◌∙◌, ◌-◌, arith}
use Rattle.std.proofs.lemmas.Grind.{get_or_default_zero}
use Rattle.mc_hop.proofs.LinkLemmas.{filled_all, filled_at_place}
use Rattle.mc_hop.proofs.cells.Cells.last_filled.Goals as goal

pub returns-then-count-eq0-clause-none : goal.returns-then-count-eq0-clause-none
returns-then-count-eq0-clause-none g c _ =
    omega (arith, filled_all c.self.invariant c.self.view_is, c.self.invariant.same_length, c.len-count.ensures, c.self.inside.places.ok.0, c.if-count-eq0.true)

pub returns-clause-found : goal.returns-clause-found
returns-clause-found g c =
    filled_at_place c.self.invariant c.self.view_is (omega (arith, c.len-count.ensures, c.self.inside.places.ok.0, c.if-count-eq0.false))
    (c.index.ensures ∙ get_or_default_zero c.self.inside.places.items (c.len-count.result - 1) c.index.result.now (omega (arith, c.len-count.ensures, c.self.inside.places.ok.0, c.if-count-eq0.false)))
