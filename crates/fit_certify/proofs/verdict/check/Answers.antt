-- The first reason that is none.
use Rattle.std.proofs.Common.{◌≡◌, ℕ, Bool, false, List, inl, sym, subst}
use Rattle.mesh_laws.specs.Sweep.{is_flagged}
use Rattle.certificate_laws.specs.declared.fit_reason.Witness.{Witness}
use Rattle.certificate_laws.specs.declared.fit_reason.FitVerdict.{FitVerdict}
use Rattle.certificate_laws.specs.FitCertificate.{IsFor, IsFirstBadFit, IsFitVerdict}
use Rattle.certificate_laws.proofs.LeadLemmas.{bad-same}
use Rattle.fit_certify.proofs.verdict.check.Goals as goal

pub returns-in-Some : goal.returns-in-Some
returns-in-Some c =
    let n : ℕ = c.args.grid.now.n in
    let heights : List ℕ = c.args.grid.now.heights in
    let cert = c.args.cert.now in
    let first : ℕ → Bool = is_flagged c.as_mut_slice-flags.result.now in
    let own =
    subst (λ k. IsFor c.args.target k) c.tolerance-tolerance.ensures (c.is_for.ensures.0 c.if-not-is_for.false) in
    let none = subst (λ (l : List Bool). (a : ℕ) → is_flagged l a ≡ false) (sym c.as_mut_slice-flags.ensures.value)
    c.in_ok-flags.ensures.empty in
    let bad =
    subst (λ (l : List Witness). IsFirstBadFit n heights cert.tolerance first l c.in-Some.index) c.needed.ensures.value
    (subst (λ k. IsFirstBadFit n heights k first c.needed.result.now c.in-Some.index) c.tolerance-tolerance.ensures
    c.in-Some.ensures.bad) in
    record {
      verdict = subst (λ (v : FitVerdict). IsFitVerdict n heights c.args.target cert v) (sym c.rejected-in-Some.ensures)
          (own, inl (bad-same n heights cert.tolerance first (λ a. false) cert.needed c.in-Some.index none bad));
    }
