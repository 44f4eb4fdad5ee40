use Rattle.std.proofs.Common.{refl}
use Rattle.mc_protocol.proofs.WordLemmas.{words-head}
use Rattle.mc_protocol.proofs.words.spaces_len.Goals as goal

pub returns-clause-first : goal.returns-clause-first
returns-clause-first c = words-head c.args.text.now _ c.spaces.result c.spaces.ensures.len refl
