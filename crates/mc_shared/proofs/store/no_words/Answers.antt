use Rattle.mc_shared.proofs.Words.{rules, ◌≡◌, ℕ, IfOk, replicate, sym, subst}
use Rattle.mc_shared.proofs.WordLemmas.{words_are}
use Rattle.mc_shared.proofs.store.no_words.Goals as goal

pub returns : goal.returns
returns c = subst (λ (n : ℕ). IfOk c.vec.result (λ v. v.items ≡ replicate {A = ℕ} n 0)) (sym (words_are c.args.count)) (search rules)
