use Rattle.mc_parse.proofs.FeedLemmas.{pushed_twice}
use Rattle.mc_parse.proofs.laws.cutting_does_not_matter.Goals as goal

pub returns : goal.returns
returns c = pushed_twice
