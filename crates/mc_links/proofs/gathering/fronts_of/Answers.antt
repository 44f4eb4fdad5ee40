use Rattle.mc_links.proofs.GatheringLemmas.{front_alone}
use Rattle.mc_links.proofs.gathering.fronts_of.Goals as goal

pub returns-else-bytes-le-LONGEST : goal.returns-else-bytes-le-LONGEST
returns-else-bytes-le-LONGEST c = front_alone c.front_of.result.now c.args.bytes.now c.args.behind.now c.front_of.ensures
