-- The bit is read by a shift and a mask.
use Rattle.std.proofs.Common.{◌/◌, ◌%◌, ap, eqb, get_or}
use Rattle.std.proofs.lemmas.Nat.Bits.{shr_and_one}
use Rattle.mosaic_rounds.specs.Bits.{has_bit}
use Rattle.mosaic_rounds.proofs.bits.is_set.Goals as goal

pub returns : goal.returns
unfolding has_bit
returns c = record {
  value = ap (λ b. eqb b 1) (shr_and_one (get_or c.args.words.now (c.args.i / 64) 0) (c.args.i % 64));
}
