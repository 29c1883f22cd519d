-- A sound certificate for the error of the words and the points, with no more points than these, may be made.
use Rattle.std.proofs.Common.{◌≡◌, ◌+◌, ◌*◌, ◌^◌, ◌≤◌, ℕ, List, Result, Ok, Err, IfOk, length, ◌∙◌, ap, subst, arith}
use Rattle.std.proofs.Math.Pow.{pow_mono}
use Rattle.std.proofs.lemmas.Nat.{mul-le}
use Rattle.mesh_defs.specs.declared.point.Point.{Point}
use Rattle.mesh_defs.specs.HeightField.{HeightField}
use Rattle.certificate_laws.specs.Keeping.{KeptCertificate, IsKeptSound}
use Rattle.certificate_laws.proofs.KeepingLemmas.{kept-few}
use Rattle.run_words.specs.Words.{KeptMaking}
use Rattle.run_laws.specs.Certify.{IsKeptMade}
use Rattle.run_laws.specs.Fit.{tolerance_of}
use Rattle.run_words.specs.FitView.{kept_making_seen}
use Rattle.run_certify.proofs.kept_making.certificate_of.Goals as goal

made : {E : Type 0} (m : KeptMaking) (grid : HeightField) (points : List Point) (tolerance : ℕ)
    (r : Result KeptCertificate E) → tolerance ≡ tolerance_of grid.n m.thousandths
    → IfOk r (λ c. (mesh : List ℕ) × IsKeptSound grid.n grid.heights points tolerance c mesh)
    → IfOk r (λ c. length c.needs ≤ length points) → IfOk r (λ c. IsKeptMade m points grid c)
made m grid points tolerance (Ok cert) same sound few =
    let own : ℕ = tolerance_of grid.n m.thousandths in
    let is = subst (λ (k : ℕ). IsKeptSound grid.n grid.heights points k cert sound.0) same sound.1 in
    record {
      triangles = sound.0;
      sound = is;
      few_needs = few;
      few = kept-few grid.n grid.heights points own cert sound.0 is;
    }
made m grid points tolerance (Err e) same sound few = tt

pub returns : goal.returns
returns c =
    let m = kept_making_seen c.args.words.now in
    made m c.args.grid.now c.args.points.now c.tolerance-tolerance.result c.make_kept.result
    (c.tolerance-tolerance.ensures ∙ ap (λ (n : ℕ). tolerance_of n m.thousandths) c.n.ensures.value)
    c.make_kept.ensures.sound c.make_kept.ensures.few

pub make_kept-requires-clause-few : goal.make_kept-requires-clause-few
make_kept-requires-clause-few c =
    let n : ℕ = c.args.grid.now.n in
    let side : 2 ^ n ≤ 2 ^ 11 = pow_mono c.requires.level in
    let points : 2 ^ n + 1 ≤ 2049 = omega (arith, side) in
    let square : (2 ^ n + 1) * (2 ^ n + 1) ≤ 2049 * 2049 = mul-le (2 ^ n + 1) (2 ^ n + 1) 2049 2049 points points in
    let few = c.requires.few in
    omega arith
