use Rattle.std.proofs.Common.{refl, arith}
use Rattle.mc_parse.specs.Units.{Request}
use Rattle.mc_reply.specs.Texts.{plain_text}
use Rattle.mc_session.proofs.LeftLemmas.{plain_answers}
use Rattle.mc_session.proofs.answer.answer_command.Goals as goal

pub returns-then-steps_of-eq0-clause-ok : goal.returns-then-steps_of-eq0-clause-ok
returns-then-steps_of-eq0-clause-ok g c = record {
  answered = record {
    unit = Request c.args.command.now;
    len = c.args.len;
    text = plain_text c.args.command.now;
    is_found = refl;
    answers = plain_answers g.S.Steps c.args.now c.args.store.now c.args.store.now (plain_text c.args.command.now) c.args.command.now (omega arith) refl refl;
  };
  next_is = c.next_after.ensures.next;
  few = c.next_after.ensures.few;
  told = c.in_ok-answer_plainly.ensures.ok;
}

pub returns-clause-ok : goal.returns-clause-ok
returns-clause-ok g c = let told = c.in_ok-answer_step.ensures.ok in record {
  answered = record { unit = Request c.args.command.now; len = c.args.len; text = told.0; is_found = refl; answers = told.2 };
  next_is = c.next_after-2.ensures.next;
  few = c.next_after-2.ensures.few;
  told = told.1;
}
