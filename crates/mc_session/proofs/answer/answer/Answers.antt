use Rattle.std.proofs.Common.{ap, refl, arith}
use Rattle.mc_parse.specs.Units.{Fault, LongLine}
use Rattle.mc_parse.specs.Peeks.{unit_of}
use Rattle.mc_reply.specs.Texts.{fault_text, long_text}
use Rattle.mc_session.proofs.answer.answer.Goals as goal

pub answer_command-requires : goal.answer_command-requires
answer_command-requires g c = c.requires c.in-Whole.command c.in-Whole.len (ap unit_of c.in-Whole.is)

pub returns-in_ok-answer_too_long-in-TooLong-clause-some : goal.returns-in_ok-answer_too_long-in-TooLong-clause-some
returns-in_ok-answer_too_long-in-TooLong-clause-some g c = record {
  answered = record { unit = LongLine; len = 65537; text = long_text; is_found = ap unit_of c.in-TooLong.is; answers = (refl, refl) };
  next_is = c.in_ok-answer_too_long-in-TooLong.ensures.ok.0;
  few = omega arith;
  told = c.in_ok-answer_too_long-in-TooLong.ensures.ok.1;
}

pub returns-in_ok-answer_fault-in-Bad-clause-some : goal.returns-in_ok-answer_fault-in-Bad-clause-some
returns-in_ok-answer_fault-in-Bad-clause-some g c = record {
  answered = record { unit = Fault c.in-Bad.fault; len = c.in-Bad.len; text = fault_text c.in-Bad.fault; is_found = ap unit_of c.in-Bad.is; answers = (refl, refl) };
  next_is = c.in_ok-answer_fault-in-Bad.ensures.ok.0;
  few = omega arith;
  told = c.in_ok-answer_fault-in-Bad.ensures.ok.1;
}
