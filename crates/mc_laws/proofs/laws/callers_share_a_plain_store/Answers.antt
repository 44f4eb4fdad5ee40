use Rattle.mc_laws.proofs.TogetherLawLemmas.{one_order, closed_order}
use Rattle.mc_laws.proofs.MixLawLemmas.{two_mix}
use Rattle.mc_laws.proofs.laws.callers_share_a_plain_store.Goals as goal

pub returns : goal.returns
returns c = record { one = one_order; closed = closed_order; two = two_mix }
