use Rattle.std.proofs.Common.{◌≡◌, ◌≤◌, ℕ, subst, sym, arith}
use Rattle.mc_slab.proofs.ClassLemmas.{run_of-lone}
use Rattle.mc_slab.specs.Classes.{IsClass}
use Rattle.mc_slab.proofs.run.memory_of.Goals as goal

pub returns-in_ok-chunk_of-clause-memory : goal.returns-in_ok-chunk_of-clause-memory
returns-in_ok-chunk_of-clause-memory c =
    let is : IsClass c.args.class = subst IsClass c.number.ensures.value c.number.ensures.is_class in
    let lone : 27 ≤ c.args.class = omega (arith, c.number.ensures.value, c.if-number-lt-LENT.false) in
    let few : c.args.count ≤ 1 = subst (λ (n : ℕ). c.args.count ≤ n) (run_of-lone c.args.class is lone) c.requires.few in
    let some : 1 ≤ c.args.count = c.requires.some in
    (lone, omega arith, c.in_ok-chunk_of.ensures)
