-- Each test that a sound certificate has to pass was passed, or but for the last.
use Rattle.std.proofs.Common.{◌≡◌, ◌↔◌, ℕ, ◌≤◌, Bool, true, IsTrue, List, [], length, refl, sym, ◌∙◌, ap, subst}
use Rattle.std.specs.Bool.{◌==◌}
use Rattle.std.proofs.lemmas.Bool.{both_ways}
use Rattle.std.proofs.lemmas.Bool.Decides.{Decides-eqb}
use Rattle.std.proofs.lemmas.List.{nil_from_length}
use Rattle.mesh_defs.specs.declared.point.Point.{Point}
use Rattle.mesh_defs.specs.ClosedSet.{IsSubset, leaves_of}
use Rattle.mesh_defs.specs.Priority.{worst_of}
use Rattle.mesh_laws.specs.Sweep.{is_flagged}
use Rattle.fit_laws.specs.Error.{error_of}
use Rattle.fit_laws.proofs.ErrorLemmas.{worst-deviation}
use Rattle.certificate_laws.specs.declared.fit_reason.Witness.{Witness}
use Rattle.certificate_laws.specs.declared.fit_reason.FitVerdict.{FitVerdict}
use Rattle.certificate_laws.specs.FitCertificate.{FitCertificate}
use Rattle.certificate_laws.specs.Keeping.{is_centred, KeptCertificate, LeadsToKept, IsKeptFit, IsKeptVerdict}
use Rattle.fit_certify.proofs.kept_verdict.kept_verdict.Goals as goal

-- a mesh whose error was measured is within a tolerance that is read, and no reason stands behind it
passed : (n : ℕ) (heights : List ℕ) (points : List Point) (cert : KeptCertificate) (has : ℕ → Bool)
    (rest : FitCertificate) (own measured : ℕ) (front : List Witness) → LeadsToKept n heights points cert has →
    rest ≡ cert.rest → own ≡ rest.tolerance → measured ≡ worst_of (error_of n heights) (leaves_of n has) →
    measured ≤ own → front ≡ rest.beyond → (length front == 0) ≡ true →
    IsKeptFit n heights points cert has × (cert.rest.beyond ≡ [])
passed n heights points cert has rest own measured front leads same is error within value none = (
  record {
    leads = leads;
    within = subst (λ k. k ≤ cert.rest.tolerance) error
        (subst (λ k. measured ≤ k) (is ∙ ap (λ (r : FitCertificate). r.tolerance) same) within);
  },
  sym (ap (λ (r : FitCertificate). r.beyond) same) ∙ sym value
      ∙ nil_from_length front ((Decides-eqb (length front) 0).0 none),
)

-- what keeping the points was asked of is the grid
kept_in : (n k : ℕ) (points : List Point) (has : ℕ → Bool) (kept : Bool) → k ≡ n →
    (IsTrue kept ↔ IsSubset (is_centred k points) has) → IsTrue kept ↔ IsSubset (is_centred n points) has
kept_in n k points has kept same keeps = subst (λ (i : ℕ). IsTrue kept ↔ IsSubset (is_centred i points) has) same keeps

pub returns-then-not-keeps : goal.returns-then-not-keeps
returns-then-not-keeps c =
    let has : ℕ → Bool = is_flagged c.args.flags.now in
    let fit = passed _ _ _ _ has _ _ _ _ c.requires.leads c.rest-rest.ensures c.tolerance.ensures
    c.measure-mesh.ensures.error c.if-mesh-tolerance.false c.beyond.ensures.value (sym c.if-not-is_empty.ensures) in
    subst (λ (v : FitVerdict). IsKeptVerdict c.args.grid.now.n c.args.grid.now.heights c.args.points.now
    c.args.cert.now.rest.tolerance c.args.cert.now v) (sym c.rejected-then-not-keeps.ensures) (
      refl,
      has,
      fit.0,
      fit.1,
      (λ all. both_ways c.keeps.result c.if-not-keeps.true
          ((kept_in _ _ _ has c.keeps.result c.n.ensures.value c.keeps.ensures).1 all)),
    )

pub returns : goal.returns
returns c =
    let has : ℕ → Bool = is_flagged c.args.flags.now in
    let fit = passed _ _ _ _ has _ _ _ _ c.requires.leads c.rest-rest.ensures c.tolerance.ensures
    c.measure-mesh.ensures.error c.if-mesh-tolerance.false c.beyond.ensures.value (sym c.if-not-is_empty.ensures) in (
      leaves_of c.args.grid.now.n has,
      record {
        has = has;
        own = refl;
        fit = fit.0;
        behind = fit.1;
        keeps = (kept_in _ _ _ has c.keeps.result c.n.ensures.value c.keeps.ensures).0 c.if-not-keeps.false;
        leaves = refl;
      },
      c.measure-mesh.ensures.triangles,
      c.measure-mesh.ensures.error ∙ worst-deviation c.args.grid.now.n c.args.grid.now.heights
          (leaves_of c.args.grid.now.n has),
    )
