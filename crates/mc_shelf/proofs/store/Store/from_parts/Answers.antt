use Rattle.mc_shelf.proofs.PartLemmas.{are_kept, plain_is}
use Rattle.mc_shelf.proofs.store.Store.from_parts.Goals as goal

pub invariant_of-result : goal.invariant_of-result
invariant_of-result g c = record {
  parts = are_kept c.args.parts.settings c.requires.1.greatest c.requires.1.limit c.requires.2;
  divides = c.requires.1.divides;
}

pub returns-clause-plain : goal.returns-clause-plain
returns-clause-plain g c state set_up are = plain_is c.args.parts.settings set_up.greatest set_up.limit are
