use Rattle.std.proofs.Common.{sym, ◌∙◌}
use Rattle.mc_protocol.proofs.NumberLemmas.{number_of-yes}
use Rattle.mc_protocol.proofs.number.number_of.Goals as goal

pub returns-then-is_blank : goal.returns-then-is_blank
returns-then-is_blank c =
    c.number_up_to.ensures
    ∙ sym (number_of-yes c.args.block.now c.digits_len.result _ _ c.digits_len.ensures c.split_at.ensures.front c.split_at.ensures.back c.if-digits-le20.true
    (sym c.is_blank.ensures ∙ c.if-is_blank.true))
