use Rattle.mc_shelf.proofs.Common.{◌∙◌, ap, EntriesAreKeyed, hashes_in, items_in, subst, sym}
use Rattle.mc_shelf.proofs.KeyMapLemmas.{hashes-empty, items-empty, keyed-empty}
use Rattle.mc_shelf.proofs.IndexLemmas.{new_empty}
use Rattle.mc_shelf.proofs.DeathLemmas.{sooner_none}
use Rattle.mc_shelf.proofs.index.EntryIndex.new.Goals as goal

pub returns-clause-items : goal.returns-clause-items
returns-clause-items c = ap items_in (new_empty 6 c.in_ok-new.field-0 c.in_ok-new.ensures) ∙ items-empty

pub returns-clause-hashes : goal.returns-clause-hashes
returns-clause-hashes c = ap hashes_in (new_empty 6 c.in_ok-new.field-0 c.in_ok-new.ensures) ∙ hashes-empty

pub invariant_of-result : goal.invariant_of-result
invariant_of-result c = (subst EntriesAreKeyed (sym (new_empty 6 c.in_ok-new.field-0 c.in_ok-new.ensures)) keyed-empty, sooner_none _ _ (returns-clause-items c))
