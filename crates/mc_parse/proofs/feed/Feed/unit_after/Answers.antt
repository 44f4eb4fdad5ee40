use Rattle.std.proofs.Common.{refl}
use Rattle.mc_parse.specs.Peeks.{unit_of}
use Rattle.mc_parse.proofs.FeedLemmas.{left_found}
use Rattle.mc_parse.proofs.feed.Feed.unit_after.Goals as goal

pub returns-in-None-clause-found : goal.returns-in-None-clause-found
returns-in-None-clause-found c =
    left_found c.args.self.now.greatest c.args.taken c.args.self.now.passed c.args.self.now.bytes (unit_of c.first_unit-in-None.result) c.first_unit-in-None.ensures.found
    (c.in-None.ensures.none refl)
