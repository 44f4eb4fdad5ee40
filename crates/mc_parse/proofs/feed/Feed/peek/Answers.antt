use Rattle.mc_parse.specs.Peeks.{unit_of}
use Rattle.mc_parse.proofs.FoundLemmas.{found_none, found_whole}
use Rattle.mc_parse.proofs.KeyLemmas.{found_keys}
use Rattle.mc_parse.proofs.feed.Feed.peek.Goals as goal

pub returns-clause-more : goal.returns-clause-more
returns-clause-more c = found_none c.args.self.now.greatest c.args.self.now.passed c.args.self.now.bytes (unit_of c.first_unit.result) c.first_unit.ensures.found

pub returns-clause-only : goal.returns-clause-only
returns-clause-only c = found_whole c.args.self.now.greatest c.args.self.now.passed c.args.self.now.bytes (unit_of c.first_unit.result) c.first_unit.ensures.found c.first_unit.ensures.none

pub returns-clause-keys : goal.returns-clause-keys
returns-clause-keys c = found_keys c.args.self.now.greatest c.args.self.now.passed c.args.self.now.bytes (unit_of c.first_unit.result) c.first_unit.ensures.found
