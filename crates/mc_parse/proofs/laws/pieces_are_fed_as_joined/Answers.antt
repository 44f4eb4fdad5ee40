use Rattle.mc_parse.proofs.FeedLemmas.{pushed_all}
use Rattle.mc_parse.proofs.laws.pieces_are_fed_as_joined.Goals as goal

pub returns : goal.returns
returns c = pushed_all
