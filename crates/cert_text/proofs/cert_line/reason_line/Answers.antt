-- An address below the end is of a triangle that may be split.
use Rattle.std.proofs.Common.{◌<◌, subst}
use Rattle.mesh_laws.proofs.SweepLemmas.{lt-splittable}
use Rattle.cert_text.proofs.cert_line.reason_line.Goals as goal

pub returns-in-Some-read_address-clause-of_grid : goal.returns-in-Some-read_address-clause-of_grid
returns-in-Some-read_address-clause-of_grid c =
    let t = c.in-Some-read_address.triangle in
    lt-splittable c.args.n t c.in-Some-read_address.ensures.low
    (subst (λ k. t < k) c.split_end.ensures.value c.in-Some-read_address.ensures.high)
