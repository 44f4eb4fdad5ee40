use Rattle.mc_shelf.proofs.FlushLemmas.{part_out, goes_purged}
use Rattle.mc_shelf.proofs.shelf.Shelf.purge_part.Goals as goal

pub purge-requires : goal.purge-requires
purge-requires c = part_out c.requires.4 c.requires.5

pub returns-clause-goes : goal.returns-clause-goes
returns-clause-goes c hash_of shelves at state fits account = goes_purged fits account c.purge.ensures.shelf c.purge.ensures.desk
