use Rattle.mc_laws.proofs.AloneLawLemmas.{alone_history, alone_legal, alone_answers}
use Rattle.mc_laws.proofs.laws.a_caller_alone_has_a_plain_store.Goals as goal

pub returns : goal.returns
returns c = record { history = alone_history; legal = alone_legal; replies = alone_answers }
