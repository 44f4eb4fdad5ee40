use Rattle.std.proofs.Common.{◌≡◌, ℕ, ◌-◌, ◌<◌, ap, ◌∙◌, arith}
use Rattle.std.proofs.lemmas.Nat.Bits.{bit_at-zero}
use Rattle.std.specs.Int.{bit_at}
use Rattle.mc_displace.proofs.MoveLemmas.{none_of_home}
use Rattle.mc_displace.proofs.displace.movable.Goals as goal
use Rattle.mc_displace.proofs.displace.movable.Goals.{then-word-ne0+else-bit-free, else-word-ne0}

pub loop-home-preserved : goal.loop-home-preserved
loop-home-preserved g c =
    let clear : (j : ℕ) → j < c.args.free - c.loop-home.home → bit_at c.word-word.result j ≡ 0 =
    elim c.if-word-ne0.branch [
      | then-word-ne0+else-bit-free w ↦ λ j l. w.lowest-bit.ensures.lowest j (omega (arith, l, w.if-bit-free.false))
      | else-word-ne0 w ↦ λ j l. ap (λ (n : ℕ). bit_at n j) (omega (arith, w.if-word-ne0.false)) ∙ bit_at-zero j
    ] in
    none_of_home _ _ _ _ _ c.word-word.result c.loop-home.invariant c.entries_are_near.ensures c.word-word.ensures clear

pub returns-clause-none : goal.returns-clause-none
returns-clause-none g c _ at m = c.loop-home.invariant at m (omega (arith, m.before, (c.entries_are_near.ensures at m.entry m.there).0, c.loop-home-test.false))
