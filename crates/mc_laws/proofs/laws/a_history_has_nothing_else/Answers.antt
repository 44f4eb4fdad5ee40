use Rattle.mc_laws.proofs.OnlyLawLemmas.{own_held, whole_held, once_only}
use Rattle.mc_laws.proofs.laws.a_history_has_nothing_else.Goals as goal

pub returns : goal.returns
returns c = record { once = once_only; own = own_held; whole = whole_held }
