use Rattle.std.proofs.Common.{◌∙◌, sym, arith, ⊎_elim}
use Rattle.mc_protocol.proofs.NumberLemmas.{none-other, none-mul, none-add, value-more, digits-more, whole-some}
use Rattle.mc_protocol.proofs.number.number_up_to.Goals as goal

pub returns-then-not-is_ascii_digit : goal.returns-then-not-is_ascii_digit
returns-then-not-is_ascii_digit c =
    sym (none-other c.args.word.now c.loop-byte.byte-index c.loop-byte-test.true c.loop-byte.number c.loop-byte.invariant.value c.args.limit
    (λ low high. ⊎_elim (λ h. omega arith) (λ h. omega arith) c.if-not-is_ascii_digit.ensures.cases))

pub returns-in_err-checked_mul : goal.returns-in_err-checked_mul
returns-in_err-checked_mul c =
    c.from_residual.ensures
    ∙ sym (none-mul c.args.word.now c.loop-byte.byte-index c.loop-byte-test.true c.loop-byte.number c.loop-byte.invariant.value c.args.limit (omega arith) c.in_err-checked_mul.ensures)

pub returns-in_err-number : goal.returns-in_err-number
returns-in_err-number c =
    let digit = c.if-not-is_ascii_digit.ensures.cases in
    c.from_residual-in_err-number.ensures
    ∙ sym (none-add c.args.word.now c.loop-byte.byte-index c.loop-byte-test.true c.loop-byte.number c.loop-byte.invariant.value c.args.limit (omega arith) digit.0 (omega (arith, digit.1))
    (λ h. c.in_err-number.ensures (omega (arith, h, c.from.ensures, c.in_ok-checked_mul.ensures.1))))

pub loop-byte-preserved : goal.loop-byte-preserved
loop-byte-preserved c =
    let digit = c.if-not-is_ascii_digit.ensures.cases in
    let value = value-more c.args.word.now c.loop-byte.byte-index c.loop-byte-test.true c.loop-byte.number c.loop-byte.invariant.value digit.0 (omega (arith, digit.1)) in
    record {
      digits = digits-more c.args.word.now c.loop-byte.byte-index c.loop-byte-test.true c.loop-byte.number c.loop-byte.invariant.value c.loop-byte.invariant.digits digit.0 (omega (arith, digit.1));
      value = omega (arith, c.in_ok-number.ensures.1, c.from.ensures, c.in_ok-checked_mul.ensures.1, value);
    }

pub returns-then-number-limit : goal.returns-then-number-limit
returns-then-number-limit c =
    sym (whole-some c.args.word.now c.loop-byte.byte-index (omega arith) c.loop-byte.number c.loop-byte.invariant.value
    (grind (arith, c.is_empty.ensures)) c.args.limit c.loop-byte.invariant.digits c.if-number-limit.true)
