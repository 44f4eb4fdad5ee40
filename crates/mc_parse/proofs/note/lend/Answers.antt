use Rattle.std.proofs.Common.{sym, ◌∙◌}
use Rattle.mc_protocol.specs.Commands.{mapped-twice}
use Rattle.mc_parse.specs.Notes.{at, keys_at}
use Rattle.mc_parse.proofs.note.lend.Goals as goal

pub returns : goal.returns
returns c =
    c.lend.ensures
    ∙ sym (mapped-twice (at c.args.text.now) (keys_at c.args.text.now) (λ len. len) (λ key. key) (λ keys. keys) (λ _. c.args.block) c.args.noted.now)
