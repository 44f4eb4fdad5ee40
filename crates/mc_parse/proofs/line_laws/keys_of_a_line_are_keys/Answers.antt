use Rattle.mc_parse.proofs.LineLemmas.{keys_are_keys}
use Rattle.mc_parse.proofs.line_laws.keys_of_a_line_are_keys.Goals as goal

pub returns : goal.returns
returns c = keys_are_keys
