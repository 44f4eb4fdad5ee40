use Rattle.mc_hop.proofs.LawLemmas.{are_apart}
use Rattle.mc_hop.proofs.laws.content_of_two_lists.Goals as goal

pub returns-clause-apart : goal.returns-clause-apart
returns-clause-apart g c = are_apart g.T.Keyed.hash_of g.T.Keyed.key_of
