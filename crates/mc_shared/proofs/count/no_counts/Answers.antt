use Rattle.mc_shared.proofs.Words.{ℕ, length-replicate}
use Rattle.mc_shared.proofs.CountLemmas.{zero_at}
use Rattle.mc_shared.proofs.count.no_counts.Goals as goal

pub returns : goal.returns
returns c = record { many = length-replicate {A = ℕ} 4096 0; none = zero_at 4096 }
