mod LawLemmas
mod JudgeLemmas
