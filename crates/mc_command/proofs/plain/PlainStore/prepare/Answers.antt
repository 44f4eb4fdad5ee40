use Rattle.std.proofs.Common.{◌≡◌, Err, ap, sym, ◌∙◌, rules}
use Rattle.mc_command.specs.declared.plain.item.Written.{Written}
use Rattle.mc_protocol.specs.declared.step.StepFault.TheVariants.{NoMemory}
use Rattle.mc_protocol.specs.Plain.{Answered}
use Rattle.mc_command.specs.Steps.{placed}
use Rattle.mc_command.proofs.WriteLemmas.{write-full, write-placed, Prepares-refused, need-by}
use Rattle.mc_command.proofs.plain.PlainStore.prepare.Goals as goal

pub returns-then-not-has_room : goal.returns-then-not-has_room
returns-then-not-has_room c = record {
  ready = tt;
  same =
      sym (write-full c.args.self.now c.args.key.now c.args.now c.args.write.now c.args.effect.reply c.in-Some.need (sym c.in-Some.is ∙ c.need_for.ensures.value)
      (sym c.is_spent.ensures ∙ c.if-is_spent.false)
      c.args.effect.stays c.if-stays.false (sym c.has_room.ensures ∙ c.if-not-has_room.true));
  spent = λ e. cc;
  refused = λ e. cc;
}

pub returns-in_err-make_block-2 : goal.returns-in_err-make_block-2
returns-in_err-make_block-2 c =
    let fault : c.from_residual-in_err-make_block-2.result ≡ Err NoMemory = search rules in
    Prepares-refused _ c.args.effect.reply (placed c.args.write.now c.args.key.now c.args.self.now c.args.now) _ c.args.key.now c.args.self.now c.args.now
    (write-placed c.args.self.now c.args.key.now c.args.now c.args.write.now c.args.effect.reply c.in-Some.need (sym c.in-Some.is ∙ c.need_for.ensures.value)
    (sym c.is_spent.ensures ∙ c.if-is_spent.false) c.args.effect.stays c.if-stays.false (sym c.has_room.ensures ∙ c.if-not-has_room.false))
    c.requires.reply fault

pub returns : goal.returns
returns c = record {
  ready = record {
    copies = c.requires.reply;
    need_is = need-by _ _ _ (sym c.in-Some.is ∙ c.need_for.ensures.value) ∙ search rules;
    is_need = search rules;
    room = sym c.has_room.ensures ∙ c.if-not-has_room.false;
    number = search rules;
  };
  same =
      ap (λ (w : Written). Answered c.args.effect.reply (placed w c.args.key.now c.args.self.now c.args.now)) c.in_ok-make_block-2.ensures
      ∙ sym (write-placed c.args.self.now c.args.key.now c.args.now c.args.write.now c.args.effect.reply c.in-Some.need (sym c.in-Some.is ∙ c.need_for.ensures.value)
      (sym c.is_spent.ensures ∙ c.if-is_spent.false)
      c.args.effect.stays c.if-stays.false (sym c.has_room.ensures ∙ c.if-not-has_room.false));
  spent = λ e. cc;
  refused = λ e. cc;
}
