use Rattle.mc_laws.proofs.OrderLawLemmas.{keeps_all, keeps_order, numbers_grow}
use Rattle.mc_laws.proofs.laws.calls_keep_their_order.Goals as goal

pub returns : goal.returns
returns c = record { stands = keeps_all; order = keeps_order; numbers = numbers_grow }
