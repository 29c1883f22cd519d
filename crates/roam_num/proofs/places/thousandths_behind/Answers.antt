use Rattle.std.proofs.Common.{arith, sym}
use Rattle.roam_num.proofs.PlacesLemmas.{three-places}
use Rattle.roam_num.proofs.places.thousandths_behind.Goals as goal

pub returns-in_default-clause-value : goal.returns-in_default-clause-value
returns-in_default-clause-value c =
    three-places c.args.digits.now c.in_ok-part.part (sym c.in_ok-part.ensures.same)
    (λ e. omega (arith, e)) (λ e. omega (arith, e))
