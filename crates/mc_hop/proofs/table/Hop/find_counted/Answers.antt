use Rattle.std.proofs.Common.{ℕ, ap, ◌∙◌, arith}
use Rattle.std.proofs.lemmas.Nat.Bits.{bit_at-zero}
use Rattle.std.specs.Int.{bit_at}
use Rattle.mc_hop.proofs.TableLemmas.{absent_by_value}
use Rattle.mc_hop.proofs.table.Hop.find_counted.Goals as goal

pub returns-then-word-eq0-clause-none : goal.returns-then-word-eq0-clause-none
returns-then-word-eq0-clause-none g c _ =
    absent_by_value _ _ _ _ _ c.self.invariant.table _ _ _ _ _ c.self.view_is c.home_of-home.ensures.value c.loop-turn.invariant.0
    (λ j _. ap (λ (n : ℕ). bit_at n j) c.if-word-eq0.true ∙ bit_at-zero j)

pub returns-clause-none : goal.returns-clause-none
returns-clause-none g c _ =
    absent_by_value _ _ _ _ _ c.self.invariant.table _ _ _ _ _ c.self.view_is c.home_of-home.ensures.value c.loop-turn.invariant.0
    (λ j within. c.loop-turn.invariant.0.low j (omega (arith, within, c.loop-turn-test.false)))
