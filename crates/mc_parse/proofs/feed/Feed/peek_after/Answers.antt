use Rattle.mc_parse.specs.Peeks.{unit_of}
use Rattle.mc_parse.proofs.FoundLemmas.{left_none, left_whole}
use Rattle.mc_parse.proofs.KeyLemmas.{left_found_keys}
use Rattle.mc_parse.proofs.feed.Feed.peek_after.Goals as goal

pub returns-clause-more : goal.returns-clause-more
returns-clause-more c = left_none c.args.self.now.greatest c.args.taken c.args.self.now.passed c.args.self.now.bytes (unit_of c.unit_after.result) c.unit_after.ensures.found

pub returns-clause-only : goal.returns-clause-only
returns-clause-only c = left_whole c.args.self.now.greatest c.args.taken c.args.self.now.passed c.args.self.now.bytes (unit_of c.unit_after.result) c.unit_after.ensures.found c.unit_after.ensures.none

pub returns-clause-keys : goal.returns-clause-keys
returns-clause-keys c = left_found_keys c.args.self.now.greatest c.args.taken c.args.self.now.passed c.args.self.now.bytes (unit_of c.unit_after.result) c.unit_after.ensures.found
