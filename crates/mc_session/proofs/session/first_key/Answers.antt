use Rattle.std.proofs.Common.{◌∙◌, ap, sym, inl, inr}
use Rattle.std.specs.Prelude.{slice_get}
use Rattle.mc_protocol.specs.Commands.{Command}
use Rattle.mc_session.specs.Reading.{keys_read}
use Rattle.mc_session.proofs.KeyLemmas.{lent_short}
use Rattle.mc_session.proofs.session.first_key.Goals as goal

pub returns-in-Get-clause-short : goal.returns-in-Get-clause-short
returns-in-Get-clause-short c = elim c.in-Get.is [
  | inl get ↦ lent_short c.args.command.now c.get.result c.requires (c.get.ensures ∙ ap (λ (command : Command). slice_get (keys_read command) 0) (sym get.1))
  | inr touch ↦ lent_short c.args.command.now c.get.result c.requires (c.get.ensures ∙ ap (λ (command : Command). slice_get (keys_read command) 0) (sym touch.2))
]
