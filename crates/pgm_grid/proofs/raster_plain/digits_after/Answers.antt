use Rattle.std.proofs.Common.{◌^◌, ◌<◌, arith}
use Rattle.text_laws.proofs.DigitLemmas.{eight-digits}
use Rattle.pgm_grid.proofs.raster_plain.digits_after.Goals as goal

pub overflow_mul-digits : goal.overflow_mul-digits
overflow_mul-digits c =
    let small : c.loop-i.digits.value < 10 ^ 8 = eight-digits c.loop-i.digits.count c.loop-i.digits.value
    (omega arith) c.loop-i.invariant.small in
    omega (arith, small)

pub overflow_add-digits-then-digits-lt-LONGEST : goal.overflow_add-digits-then-digits-lt-LONGEST
overflow_add-digits-then-digits-lt-LONGEST c =
    let small : c.loop-i.digits.value < 10 ^ 8 = eight-digits c.loop-i.digits.count c.loop-i.digits.value
    (omega arith) c.loop-i.invariant.small in
    omega (arith, small)
