-- A sound certificate has the verdict that it is certified, and no other.
use Rattle.std.proofs.Common.{◌≡◌, ℕ, ◌+◌, ◌-◌, ◌<◌, Bool, false, List, length, refl, sym, ◌∙◌, ap, ap₂, subst, arith}
use Rattle.std.proofs.Common.{⊎_elim}
use Rattle.mesh_defs.specs.ClosedSet.{leaves_of}
use Rattle.mesh_defs.specs.Priority.{worst_of}
use Rattle.mesh_laws.proofs.ClosureLemmas.{leaves_of-same}
use Rattle.fit_laws.specs.PlaneHeight.{deviation_of}
use Rattle.fit_laws.specs.Error.{error_of}
use Rattle.certificate_laws.specs.declared.fit_reason.Target.{Target}
use Rattle.certificate_laws.specs.declared.fit_reason.FitReject.{FitReject}
use Rattle.certificate_laws.specs.declared.fit_reason.FitReject.TheVariants.{OtherTolerance, BadReason, OverTolerance}
use Rattle.certificate_laws.specs.declared.fit_reason.FitReject.TheVariants.{OverBudget, TooFewReasons}
use Rattle.certificate_laws.specs.declared.fit_reason.FitVerdict.{FitVerdict}
use Rattle.certificate_laws.specs.declared.fit_reason.FitVerdict.TheVariants.{Certified, Rejected}
use Rattle.certificate_laws.specs.FitCertificate.{FitCertificate, LeadsTo, LeadsToFit, IsWithinTarget, IsEnough}
use Rattle.certificate_laws.specs.FitCertificate.{IsFitSound, IsFirstBadFit, IsFitRejected, IsFitVerdict}
use Rattle.certificate_laws.proofs.LeadLemmas.{leads-unique, leads-no_bad}

module _ (n : ℕ) (heights : List ℕ) (target : Target) (cert : FitCertificate) (mesh : List ℕ)
    (sound : IsFitSound n heights target cert mesh) where
  -- the set of the mesh is the one that the reasons before it lead to
  one-set : (has : ℕ → Bool) → LeadsTo n heights cert.tolerance (λ a. false) cert.needed has →
      (a : ℕ) → has a ≡ sound.has a
  one-set has leads = leads-unique n heights cert.tolerance (λ a. false) (λ a. false) cert.needed has sound.has
      (λ a. refl) leads sound.fitted.needed

  one-leaves : (has : ℕ → Bool) → LeadsTo n heights cert.tolerance (λ a. false) cert.needed has →
      leaves_of n has ≡ leaves_of n sound.has
  one-leaves has leads = leaves_of-same n has sound.has (one-set has leads)

  -- so no test fails
  sound-accepted : (why : FitReject) → IsFitRejected n heights target cert why → ⊥
  sound-accepted OtherTolerance r = r sound.own
  sound-accepted (BadReason index) r = ⊎_elim
      (λ (b : IsFirstBadFit n heights cert.tolerance (λ a. false) cert.needed index).
      leads-no_bad n heights cert.tolerance (λ a. false) (λ a. false) cert.needed index sound.has
      (λ a. refl) b sound.fitted.needed)
      (λ (b : (has : ℕ → Bool) × LeadsToFit n heights cert has × IsWithinTarget target (length (leaves_of n has))
      × (place : ℕ) × IsFirstBadFit n heights (cert.tolerance - 1) has cert.beyond place
      × (index ≡ length cert.needed + place)).
      leads-no_bad n heights (cert.tolerance - 1) b.0 sound.has cert.beyond b.3 sound.over
      (one-set b.0 b.1.needed) b.4 sound.beyond)
      r.1
  sound-accepted OverTolerance r =
      let over : cert.tolerance < worst_of (error_of n heights) (leaves_of n sound.has) =
      subst (λ (l : List ℕ). cert.tolerance < worst_of (error_of n heights) l) (one-leaves r.1 r.2) r.3 in
      let within = sound.fitted.within in absurd (omega arith)
  sound-accepted OverBudget r =
      r.3 (subst (λ (l : List ℕ). IsWithinTarget target (length l)) (sym (one-leaves r.1 r.2.needed)) sound.few)
  sound-accepted TooFewReasons r =
      let same : leaves_of n r.4 ≡ leaves_of n sound.over = leaves_of-same n r.4 sound.over
      (leads-unique n heights (cert.tolerance - 1) r.1 sound.has cert.beyond r.4 sound.over
      (one-set r.1 r.2.needed) r.5 sound.beyond) in
      r.6 (subst (λ (l : List ℕ). IsEnough target cert.tolerance (length l)) (sym same) sound.enough)

  -- and the numbers are those of the mesh
  pub sound-certified : (verdict : FitVerdict) → IsFitVerdict n heights target cert verdict
      → verdict ≡ Certified (length mesh) (deviation_of n heights mesh)
  sound-certified (Certified triangles deviation) v =
      let same : v.0 ≡ mesh = v.1.leaves ∙ one-leaves v.1.has v.1.fitted.needed ∙ sym sound.leaves in
      ap₂ (λ i j. Certified i j) (v.2 ∙ ap (λ (l : List ℕ). length l) same) (v.3 ∙ ap (deviation_of n heights) same)
  sound-certified (Rejected why) v = absurd (sound-accepted why v)
