use Rattle.mc_shelf.proofs.PartLemmas.{goes_by_step, goes_without_desk}
use Rattle.mc_shelf.proofs.parts.steps_change_one_shelf.Goals as goal

pub returns-clause-taken : goal.returns-clause-taken
returns-clause-taken c hash_of shelves at state step now reply old new desk desk' on mine fits account taken =
    goes_by_step step mine fits account on taken

pub returns-clause-settled : goal.returns-clause-settled
returns-clause-settled c hash_of shelves at state step now reply old new on mine fits settled = goes_without_desk step on mine fits settled
