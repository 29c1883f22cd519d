use Rattle.std.proofs.Common.{◌+◌, ◌*◌, arith, sym, ap, ◌∙◌}
use Rattle.roam_num.proofs.DigitLemmas.{not_digits, small_front, next_value, next_digits, whole}
use Rattle.roam_num.proofs.reading.value_of_digits.Goals as goal

pub returns-then-not-is_ascii_digit-clause-value : goal.returns-then-not-is_ascii_digit-clause-value
returns-then-not-is_ascii_digit-clause-value c =
    not_digits c.args.bytes.now c.loop-byte.byte-index c.loop-byte-test.true
    (sym c.is_ascii_digit.ensures.value ∙ c.if-not-is_ascii_digit.true)

pub overflow_mul-value : goal.overflow_mul-value
overflow_mul-value c =
    let small = small_front c.args.bytes.now c.loop-byte.byte-index c.loop-byte-test.true c.requires
    c.loop-byte.invariant.digits in
    let value = c.loop-byte.invariant.value in
    omega (arith, small, value)

pub overflow_add-value : goal.overflow_add-value
overflow_add-value c =
    let small = small_front c.args.bytes.now c.loop-byte.byte-index c.loop-byte-test.true c.requires
    c.loop-byte.invariant.digits in
    let value = c.loop-byte.invariant.value in
    let byte = c.type_inv.bytes c.loop-byte.byte-index in
    omega (arith, small, value, byte)

pub loop-byte-preserved : goal.loop-byte-preserved
loop-byte-preserved c =
    let digit = sym c.is_ascii_digit.ensures.value ∙ c.if-not-is_ascii_digit.false in
    record {
      digits =
          next_digits c.args.bytes.now c.loop-byte.byte-index c.loop-byte-test.true digit c.loop-byte.invariant.digits;
      value =
          ap (λ d. 10 * c.loop-byte.value + d) c.from.ensures
          ∙ next_value c.args.bytes.now c.loop-byte.byte-index c.loop-byte.value c.loop-byte-test.true digit
          c.loop-byte.invariant.value;
    }

pub returns-clause-value : goal.returns-clause-value
returns-clause-value c =
    let read = whole c.args.bytes.now c.loop-byte.byte-index c.loop-byte.value c.loop-byte-test.false
    c.loop-byte.invariant.digits c.loop-byte.invariant.value in
    (read.0, read.1)

pub returns-clause-bound : goal.returns-clause-bound
returns-clause-bound c =
    (whole c.args.bytes.now c.loop-byte.byte-index c.loop-byte.value c.loop-byte-test.false c.loop-byte.invariant.digits
    c.loop-byte.invariant.value).2
