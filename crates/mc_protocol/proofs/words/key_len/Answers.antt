use Rattle.mc_protocol.proofs.WordLemmas.{space_at, space_nowhere}
use Rattle.mc_protocol.proofs.words.key_len.Goals as goal

pub returns-in-Some : goal.returns-in-Some
returns-in-Some c = space_at c.args.text.now c.in-Some.place c.in-Some.ensures

pub returns-in-None : goal.returns-in-None
returns-in-None c = space_nowhere c.args.text.now c.in-None.ensures
