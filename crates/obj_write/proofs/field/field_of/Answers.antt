use Rattle.std.proofs.Common.{◌≡◌, ◌<◌, ◌+◌, ◌-◌, ◌^◌, take, drop, replicate, decimal, ◌∷◌, arith, ap, sym, ◌∙◌}
use Rattle.obj_write.proofs.FieldLemmas.{length-digits, blank-and-digits}
use Rattle.obj_write.proofs.field.field_of.Goals as goal

pub write_digits-start-requires : goal.write_digits-start-requires
write_digits-start-requires c =
    let fits : c.from.result < 2 ^ 32 = omega (arith, c.from.ensures) in
    let few = length-digits c.from.result fits in
    (omega arith, omega arith)

pub overflow_sub-start : goal.overflow_sub-start
overflow_sub-start c =
    let fits : c.from.result < 2 ^ 32 = omega (arith, c.from.ensures) in
    let few = length-digits c.from.result fits in
    omega arith

pub returns : goal.returns
returns c =
    let fits : c.from.result < 2 ^ 32 = omega (arith, c.from.ensures) in
    let few = length-digits c.from.result fits in
    let s = c.write_digits-start.result - 1 in
    let next : c.write_digits-start.result ≡ s + 1 = omega arith in
    let xs = c.write_digits-start.new.buf in
    record {
      short = omega arith;
      bytes = blank-and-digits xs (decimal c.from.result) (drop 16 (replicate 32 32)) s (omega arith) (omega arith)
          (ap (λ k. take k xs) (sym next) ∙ c.write_digits-start.ensures.before
          ∙ ap (λ k. take k (replicate 32 32)) next)
          (ap (λ k. drop k xs) (sym next) ∙ c.write_digits-start.ensures.written)
          ∙ ap (λ k. 32 ∷ decimal k) c.from.ensures;
    }
