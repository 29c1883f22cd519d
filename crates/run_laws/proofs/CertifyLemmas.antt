-- What making and checking a certificate come to: there is an outcome, of a check one alone, and a mesh that is
-- certified is optimal.
use Rattle.std.proofs.Common.{◌≡◌, ℕ, ◌≤◌, List, [], Result, Ok, Err, length, refl, sym, ◌∙◌, ap, subst, inl, inr}
use Rattle.std.proofs.Common.{arith}
use Rattle.roam_edge.specs.Shelf.{NamedFile}
use Rattle.mesh_defs.specs.HeightField.{HeightField}
use Rattle.mesh_defs.specs.ClosedSet.{among, leaves_of}
use Rattle.mesh_defs.specs.Priority.{priority_of}
use Rattle.mesh_defs.specs.View.{View}
use Rattle.mesh_defs.specs.Falling.{IsFalling}
use Rattle.mesh_defs.specs.State.{State, priority_in, text_in}
use Rattle.certificate_laws.specs.declared.reason.Reject.TheVariants.{BadLine, MeshDiffers}
use Rattle.certificate_laws.specs.declared.reason.Verdict.{Verdict}
use Rattle.certificate_laws.specs.declared.reason.Verdict.TheVariants as verdict
use Rattle.certificate_laws.specs.Certificate.{IsVerdict, IsOptimal}
use Rattle.certificate_laws.proofs.SoundLemmas.{optimal-sound}
use Rattle.certificate_laws.proofs.MakeLemmas.{sound_of, optimal-best}
use Rattle.certificate_laws.proofs.VerdictLemmas.{verdict_of, verdict_unique}
use Rattle.cert_text.specs.Certificate.{Certificate}
use Rattle.cert_text.specs.CertText.{cert_text}
use Rattle.run_laws.specs.declared.status.Status.{Status}
use Rattle.run_laws.specs.declared.status.Status.TheVariants.{Done, Rejected}
use Rattle.run_words.specs.Words.{Making, Checking, Make}
use Rattle.run_laws.specs.Certify.{makes_at, checks_at, IsMade, IsFaultless}
use Rattle.run_laws.specs.ReportText.{certified_line, rejection}
use Rattle.run_laws.specs.Outcome.{Outcome, text_outcome, IsJobOutcome, IsCompared, IsVerdictOutcome, IsCheckOutcome}
use Rattle.run_laws.specs.Headline.{IsCertifiedMesh}
use Rattle.run_laws.specs.Laws.{FramesExist}
use Rattle.run_laws.proofs.DifferenceLemmas.{difference-unique, difference-same, same-or-different}
use Rattle.run_laws.proofs.PictureLemmas.{no-members, BudgetFramesAreBest}

-- one text, and then the end

-- the outcome is a text of the report
abbrev pub IsOneText : Outcome → Type 0
IsOneText end = (bytes : List ℕ) × (status : Status) × (files : ℕ) × (end ≡ text_outcome bytes status files)

-- comparing the file of a mesh with a text comes to one text of the report
pub compared-text : (files : ℕ) (mesh text line : List ℕ) (end : Outcome) → IsCompared files mesh text line end →
    IsOneText end
compared-text files mesh text line end (inl same) = (line, Done, files, same.1)
compared-text files mesh text line end (inr differs) = (rejection (MeshDiffers differs.0), Rejected, files, differs.2)

verdict-text : (state : State) (cert : Certificate) (mesh : List ℕ) (is : Verdict) (end : Outcome) →
    IsVerdictOutcome state cert mesh is end → IsOneText end
verdict-text state cert mesh (verdict.Certified triangles worst) end of =
    compared-text 3 mesh (text_in state cert.leaves) (certified_line cert.camera triangles worst) end of
verdict-text state cert mesh (verdict.Rejected why) end of = (rejection why, Rejected, 2, of)

-- what a check comes to is one line
pub check-text : (c : Checking) (grid : HeightField) (r : Result Certificate ℕ) (mesh : List ℕ) (end : Outcome) →
    IsCheckOutcome c grid r mesh end → IsOneText end
check-text c grid (Ok cert) mesh end is = verdict-text (checks_at c grid cert.camera) cert mesh is.0 end is.2
check-text c grid (Err line) mesh end is = (rejection (BadLine line), Rejected, 2, is)

-- what is made is one text
pub make-text : (m : Making) (grid : HeightField) (files : List NamedFile) (end : Outcome) →
    IsJobOutcome (Make m) grid files end → IsOneText end
make-text m grid files end is = (cert_text is.0, Done, 1, is.2)

-- a check has one outcome

-- comparing the file of a mesh with a text has one outcome alone
pub compared-unique : (files : ℕ) (mesh text line : List ℕ) (end other : Outcome) →
    IsCompared files mesh text line end → IsCompared files mesh text line other → end ≡ other
compared-unique files mesh text line end other (inl f) (inl g) = f.1 ∙ sym g.1
compared-unique files mesh text line end other (inl f) (inr g) = absurd (difference-same mesh text g.0 g.1 f.0)
compared-unique files mesh text line end other (inr f) (inl g) = absurd (difference-same mesh text f.0 f.1 g.0)
compared-unique files mesh text line end other (inr f) (inr g) =
    f.2 ∙ (ap (λ (at : ℕ). text_outcome (rejection (MeshDiffers at)) Rejected files)
    (difference-unique mesh text f.0 g.0 f.1 g.1) ∙ sym g.2)

verdict-unique : (state : State) (cert : Certificate) (mesh : List ℕ) (is : Verdict) (end other : Outcome)
    → IsVerdictOutcome state cert mesh is end → IsVerdictOutcome state cert mesh is other → end ≡ other
verdict-unique state cert mesh (verdict.Certified triangles worst) end other f g =
    compared-unique 3 mesh (text_in state cert.leaves) (certified_line cert.camera triangles worst) end other f g
verdict-unique state cert mesh (verdict.Rejected why) end other f g = f ∙ sym g

-- a check of a certificate has one outcome alone
pub check-unique : (c : Checking) (grid : HeightField) (r : Result Certificate ℕ) (mesh : List ℕ) (end other : Outcome)
    → IsCheckOutcome c grid r mesh end → IsCheckOutcome c grid r mesh other → end ≡ other
check-unique c grid (Ok cert) mesh end other f g =
    let state : State = checks_at c grid cert.camera in
    let P : Verdict → Type 0 = λ v. IsVerdictOutcome state cert mesh v other in
    verdict-unique state cert mesh f.0 end other f.2
    (subst P (verdict_unique grid.n c.budget (priority_in state) cert.leaves cert.reasons g.0 f.0 g.1 f.1) g.2)
check-unique c grid (Err line) mesh end other f g = f ∙ sym g

-- and it has one

-- comparing the file of a mesh with a text has an outcome
pub compared-exists : (files : ℕ) (mesh text line : List ℕ) → (end : Outcome) × IsCompared files mesh text line end
compared-exists files mesh text line = elim (same-or-different mesh text) [
  | inl same ↦ (text_outcome line Done files, inl (same, refl))
  | inr one ↦ (text_outcome (rejection (MeshDiffers one.0)) Rejected files, inr (one.0, one.1, refl))
]

verdict-exists : (state : State) (cert : Certificate) (mesh : List ℕ) (is : Verdict) →
    (end : Outcome) × IsVerdictOutcome state cert mesh is end
verdict-exists state cert mesh (verdict.Certified triangles worst) =
    compared-exists 3 mesh (text_in state cert.leaves) (certified_line cert.camera triangles worst)
verdict-exists state cert mesh (verdict.Rejected why) = (text_outcome (rejection why) Rejected 2, refl)

-- a check of a certificate has an outcome
pub check-exists : (c : Checking) (grid : HeightField) (r : Result Certificate ℕ) (mesh : List ℕ) →
    (end : Outcome) × IsCheckOutcome c grid r mesh end
check-exists c grid (Ok cert) mesh =
    let state : State = checks_at c grid cert.camera in
    let v = verdict_of grid.n c.budget (priority_in state) cert.leaves cert.reasons in
    let e = verdict-exists state cert mesh v.0 in
    (e.0, (v.0, v.1, e.1))
check-exists c grid (Err line) mesh = (text_outcome (rejection (BadLine line)) Rejected 2, refl)

-- a certificate can be made
abbrev pub CertificatesExist : Type 0
CertificatesExist =
    (m : Making) (grid : HeightField) → (1 ≤ grid.n) × (grid.n ≤ 14) → 2 ≤ m.budget →
    (cert : Certificate) × IsMade m grid cert

-- where priorities fall and each state has a frame, which is best, a certificate can be made
pub certificates-exist : ((n : ℕ) (heights : List ℕ) (view : View) → IsFalling n (priority_of n heights view)) →
    BudgetFramesAreBest → FramesExist → CertificatesExist
certificates-exist falling best frames m grid range low =
    let state : State = makes_at m grid in
    let frame = frames state [] (no-members grid.n range) low in
    let leaves : List ℕ = leaves_of grid.n (among frame.0) in
    let is = best state frame.0 frame.1 frame.2 low frame.6 in
    let of = sound_of grid.n m.budget (priority_in state) leaves (falling grid.n grid.heights state.view)
    (optimal-best grid.n m.budget (priority_in state) leaves is) in (
      record { camera = m.camera; leaves = leaves; reasons = of.0 },
      record { camera = refl; best = is; sound = of.1; few = omega (arith, of.2, low) },
    )

-- then making a certificate has an outcome
pub make-exists : CertificatesExist → (m : Making) (grid : HeightField) (files : List NamedFile) →
    (1 ≤ grid.n) × (grid.n ≤ 14) → 2 ≤ m.budget →
    (end : Outcome) × IsJobOutcome (Make m) grid files end
make-exists made m grid files range low =
    let cert = made m grid range low in
    (text_outcome (cert_text cert.0) Done 1, (cert.0, cert.1, refl))

-- what is accepted ends with Done

module _ (c : Checking) (grid : HeightField) (cert : Certificate) (mesh : List ℕ) where
  abbrev state : State
  state = checks_at c grid cert.camera

  sound-verdict : (is : Verdict) (end : Outcome) → IsFaultless c grid cert → mesh ≡ text_in state cert.leaves
      → IsVerdict grid.n c.budget (priority_in state) cert.leaves cert.reasons is →
      IsVerdictOutcome state cert mesh is end → end.status ≡ Done
  sound-verdict (verdict.Certified triangles worst) end sound same v (inl f) = ap (λ (o : Outcome). o.status) f.1
  sound-verdict (verdict.Certified triangles worst) end sound same v (inr f) =
      absurd (difference-same mesh (text_in state cert.leaves) f.0 f.1 same)
  sound-verdict (verdict.Rejected why) end sound same v of =
      absurd (differ (verdict_unique grid.n c.budget (priority_in state) cert.leaves cert.reasons (verdict.Rejected why)
      (verdict.Certified _ _) v (sound, refl, refl)))
    where
      differ : {triangles worst : ℕ} → verdict.Rejected why ≡ verdict.Certified triangles worst → ⊥
      differ e = cc

  -- a check of a certificate without a fault and of the text of its triangles ends with Done
  pub check-done : (end : Outcome) → IsFaultless c grid cert → mesh ≡ text_in state cert.leaves →
      IsCheckOutcome c grid (Ok cert) mesh end → end.status ≡ Done
  check-done end sound same is = sound-verdict is.0 end sound same is.1 is.2

-- the mesh of a check that is done

-- what ends with Rejected does not end with Done
pub not-done : (end : Outcome) (bytes : List ℕ) (files : ℕ) →
    end ≡ text_outcome bytes Rejected files → end.status ≡ Done → ⊥
not-done end bytes files is done = differ (sym (ap (λ (o : Outcome). o.status) is) ∙ done)
  where
    differ : Rejected ≡ Done → ⊥
    differ e = cc

-- the line of a check that certifies its mesh
abbrev pub Certifies : Checking → HeightField → List ℕ → Outcome → Type 0
Certifies c grid mesh end = (line : List ℕ) × IsCertifiedMesh c grid mesh line × (end ≡ text_outcome line Done 3)

module _ (falling : (n : ℕ) (heights : List ℕ) (view : View) → IsFalling n (priority_of n heights view)) (c : Checking)
    (grid : HeightField) (mesh : List ℕ) (end : Outcome)
    (done : end.status ≡ Done) where
  compared-certifies : (cert : Certificate) (line : List ℕ) →
      IsCertifiedMesh c grid (text_in (checks_at c grid cert.camera) cert.leaves) line
      → IsCompared 3 mesh (text_in (checks_at c grid cert.camera) cert.leaves) line end → Certifies c grid mesh end
  compared-certifies cert line certified (inl f) =
      (line, subst (λ (l : List ℕ). IsCertifiedMesh c grid l line) (sym f.0) certified, f.1)
  compared-certifies cert line certified (inr f) = absurd (not-done end (rejection (MeshDiffers f.0)) 3 f.2 done)

  verdict-certifies : (cert : Certificate) (is : Verdict) →
      IsVerdict grid.n c.budget (priority_in (checks_at c grid cert.camera)) cert.leaves cert.reasons is
      → IsVerdictOutcome (checks_at c grid cert.camera) cert mesh is end → Certifies c grid mesh end
  verdict-certifies cert (verdict.Certified triangles worst) v of =
      let state : State = checks_at c grid cert.camera in
      let best : IsOptimal grid.n c.budget (priority_in state) cert.leaves =
      optimal-sound grid.n c.budget (priority_in state) cert.leaves cert.reasons
      (falling grid.n grid.heights state.view) v.0 in
      compared-certifies cert (certified_line cert.camera triangles worst)
      (record {
        camera = cert.camera;
        triangles = cert.leaves;
        text = refl;
        conforming = best.conforming;
        within = best.within;
        optimal = best.optimal;
        told = ap (λ (k : ℕ). certified_line cert.camera k worst) v.1
            ∙ ap (λ (k : ℕ). certified_line cert.camera (length cert.leaves) k) v.2;
      }) of
  verdict-certifies cert (verdict.Rejected why) v of = absurd (not-done end (rejection why) 2 of done)

  -- a check that ends with Done comes to one line, which certifies its mesh
  pub check-certifies : (r : Result Certificate ℕ) → IsCheckOutcome c grid r mesh end → Certifies c grid mesh end
  check-certifies (Ok cert) is = verdict-certifies cert is.0 is.1 is.2
  check-certifies (Err line) is = absurd (not-done end (rejection (BadLine line)) 2 is done)
