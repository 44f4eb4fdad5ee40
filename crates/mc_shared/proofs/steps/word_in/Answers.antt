use Rattle.mc_shared.proofs.Words.{◌<◌, ℕ, sym, subst, words_with}
use Rattle.mc_shared.proofs.WordLemmas.{word_is, word_inside}
use Rattle.mc_shared.proofs.steps.word_in.Goals as goal

pub returns-clause-word : goal.returns-clause-word
returns-clause-word c = sym (word_is c.args.shelves c.args.number)

pub returns-clause-inside : goal.returns-clause-inside
returns-clause-inside c = subst (λ (x : ℕ). x < words_with c.args.shelves) (word_is c.args.shelves c.args.number) (word_inside c.args.shelves c.args.number c.requires.divides c.requires.number)
