use Rattle.std.proofs.Common.{◌∙◌, Bor, List, ℕ}
use Rattle.mc_parse.proofs.NameLemmas.{named_found}
use Rattle.mc_parse.proofs.name.find_name.Goals as goal

pub returns : goal.returns
returns c = c.row_named.ensures ∙ named_found (λ (name : Bor (List ℕ)). name.now) c.args.rows.now c.args.word.now
