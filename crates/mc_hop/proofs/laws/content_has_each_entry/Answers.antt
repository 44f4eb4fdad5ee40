use Rattle.mc_hop.proofs.LawLemmas.{entry_absent}
use Rattle.mc_hop.proofs.laws.content_has_each_entry.Goals as goal

pub returns-clause-absent : goal.returns-clause-absent
returns-clause-absent g c = entry_absent g.T.Keyed.hash_of g.T.Keyed.key_of
