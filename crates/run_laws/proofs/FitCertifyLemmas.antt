-- What making and checking a certificate of a fitted mesh come to: there is an outcome, of a check one alone, and a
-- mesh that is certified is a best one.
use Rattle.std.proofs.Common.{◌≡◌, ◌≢◌, ℕ, ◌+◌, List, length, ◌++◌, Option, Some, Result, Ok, Err, IsTrue, refl, sym}
use Rattle.std.proofs.Common.{◌∙◌, ap, ap₂, subst, inl, inr, append-nil}
use Rattle.mesh_defs.specs.HeightField.{HeightField}
use Rattle.roam_edge.specs.Shelf.{NamedFile, bytes_of}
use Rattle.pgm_grid.specs.declared.fault.PgmFault.{PgmFault}
use Rattle.pgm_grid.specs.Laws.{TextsAreRead}
use Rattle.fit_laws.specs.PlaneHeight.{deviation_of}
use Rattle.obj_write.specs.Written.{Grows}
use Rattle.certificate_laws.specs.declared.reason.Reject.TheVariants.{BadLine, MeshDiffers}
use Rattle.certificate_laws.specs.declared.fit_reason.Target.{Target}
use Rattle.certificate_laws.specs.declared.fit_reason.FitVerdict.{FitVerdict}
use Rattle.certificate_laws.specs.declared.fit_reason.FitVerdict.TheVariants as verdict
use Rattle.certificate_laws.specs.FitCertificate.{FitCertificate, IsVerdictOf, IsFitSound}
use Rattle.certificate_laws.specs.Making.{IsPossible}
use Rattle.certificate_laws.proofs.FitSoundLemmas.{sound-error, sound-budget, sound-few}
use Rattle.certificate_laws.proofs.DecisionLemmas.{verdict_found, verdict-is, verdict_one, mesh_one}
use Rattle.certificate_laws.proofs.FoundLemmas.{sound_found}
use Rattle.cert_text.specs.FitCertText.{fit_cert_text}
use Rattle.run_laws.specs.declared.status.Status.{Status}
use Rattle.run_laws.specs.declared.status.Status.TheVariants.{Done, NoMemory, ReadFault, Rejected}
use Rattle.run_words.specs.Words.{Goal, AtError, InBudget, FitMaking, FitChecking, CheckFit, Command, command_of}
use Rattle.run_words.specs.Words.{MakeFit, Job}
use Rattle.run_laws.specs.CertFile.{fit_cert_in}
use Rattle.run_laws.specs.Certify.{IsFitMade}
use Rattle.run_laws.specs.Fit.{target_of, IsFitFor, IsBestFit, fit_text}
use Rattle.run_laws.specs.Act.{Sinks, Stands, report_of}
use Rattle.run_laws.specs.ReportText.{certified_fit_line, fit_rejection, rejection}
use Rattle.run_laws.specs.Outcome.{Outcome, text_outcome, IsJobOutcome, IsCompared, IsFitVerdictOutcome}
use Rattle.run_laws.specs.Outcome.{IsFitCheckOutcome, IsGridOutcome, IsOutcome}
use Rattle.run_laws.specs.Promise.{ShelfState, is_complete, EndsRight, IsAcceptedFitCheck}
use Rattle.run_laws.specs.Headline.{IsRunOf, IsCertifiedAs, IsCertifiedFit}
use Rattle.run_laws.proofs.DifferenceLemmas.{difference-same}
use Rattle.run_laws.proofs.CertifyLemmas.{IsOneText, compared-text, compared-unique, compared-exists, not-done}
use Rattle.run_laws.proofs.FitLemmas.{IsGoalOfWords, fit-best}

-- one text, and then the end

-- what a verdict leads to is one line
pub verdict-text : (files spacing : ℕ) (grid : HeightField) (triangles mesh : List ℕ) (is : FitVerdict) (end : Outcome)
    → IsFitVerdictOutcome files spacing grid triangles mesh is end → IsOneText end
verdict-text files spacing grid triangles mesh (verdict.Certified count deviation) end of =
    compared-text (files + 1) mesh (fit_text spacing grid triangles) (certified_fit_line grid.n count deviation) end of
verdict-text files spacing grid triangles mesh (verdict.Rejected why) end of = (fit_rejection why, Rejected, files, of)

-- what a check comes to is one line
pub judged-text : {C : Type 0} (files spacing : ℕ) (grid : HeightField) (holds : C → FitVerdict → List ℕ → Type 0)
    (r : Result C ℕ) (mesh : List ℕ) (end : Outcome) → IsFitCheckOutcome files spacing grid holds r mesh end
    → IsOneText end
judged-text files spacing grid holds (Ok cert) mesh end is = verdict-text files spacing grid is.1 mesh is.0 end is.3
judged-text files spacing grid holds (Err line) mesh end is = (rejection (BadLine line), Rejected, files, is)

-- what is made is one text
pub fit_make-text : (m : FitMaking) (grid : HeightField) (files : List NamedFile) (end : Outcome) →
    IsJobOutcome (MakeFit m) grid files end → IsOneText end
fit_make-text m grid files end is = (fit_cert_text is.0, Done, 1, is.2)

-- a check has one outcome

-- where only triangles of one certificate are certified, a verdict on it has one outcome alone
pub verdict-unique : (files spacing : ℕ) (grid : HeightField) (triangles others mesh : List ℕ) (is : FitVerdict)
    (end other : Outcome)
    → ((count deviation : ℕ) → is ≡ verdict.Certified count deviation → others ≡ triangles)
    → IsFitVerdictOutcome files spacing grid triangles mesh is end →
    IsFitVerdictOutcome files spacing grid others mesh is other → end ≡ other
verdict-unique files spacing grid triangles others mesh (verdict.Certified count deviation) end other one f g =
    let line : List ℕ = certified_fit_line grid.n count deviation in
    compared-unique (files + 1) mesh (fit_text spacing grid triangles) line end other f
    (subst (λ (l : List ℕ). IsCompared (files + 1) mesh (fit_text spacing grid l) line other)
    (one count deviation refl) g)
verdict-unique files spacing grid triangles others mesh (verdict.Rejected why) end other one f g = f ∙ sym g

-- what holds of verdicts on one certificate holds of one alone, and of the triangles of one mesh where it certifies
abbrev pub IsOneVerdict : (FitVerdict → List ℕ → Type 0) → Type 0
IsOneVerdict holds = (is other : FitVerdict) (triangles others : List ℕ) → holds is triangles → holds other others
    → (other ≡ is) × ((count deviation : ℕ) → is ≡ verdict.Certified count deviation → others ≡ triangles)

-- A check of certificates, each of which has one verdict.
module _ (C : Type 0) (files spacing : ℕ) (grid : HeightField) (holds : C → FitVerdict → List ℕ → Type 0)
    (one : (cert : C) → IsOneVerdict (holds cert)) where
  -- it has one outcome alone
  pub judged-unique : (r : Result C ℕ) (mesh : List ℕ) (end other : Outcome)
      → IsFitCheckOutcome files spacing grid holds r mesh end
      → IsFitCheckOutcome files spacing grid holds r mesh other → end ≡ other
  judged-unique (Ok cert) mesh end other f g =
      let same = one cert f.0 g.0 f.1 g.1 f.2 g.2 in
      verdict-unique files spacing grid f.1 g.1 mesh f.0 end other same.1 f.3
      (subst (λ (v : FitVerdict). IsFitVerdictOutcome files spacing grid g.1 mesh v other) same.0 g.3)
  judged-unique (Err line) mesh end other f g = f ∙ sym g

-- and it has one

-- a verdict has an outcome
pub verdict-exists : (files spacing : ℕ) (grid : HeightField) (triangles mesh : List ℕ) (is : FitVerdict) →
    (end : Outcome) × IsFitVerdictOutcome files spacing grid triangles mesh is end
verdict-exists files spacing grid triangles mesh (verdict.Certified count deviation) =
    compared-exists (files + 1) mesh (fit_text spacing grid triangles) (certified_fit_line grid.n count deviation)
verdict-exists files spacing grid triangles mesh (verdict.Rejected why) =
    (text_outcome (fit_rejection why) Rejected files, refl)

-- a check of certificates that have verdicts has an outcome
pub judged-exists : {C : Type 0} (files spacing : ℕ) (grid : HeightField) (holds : C → FitVerdict → List ℕ → Type 0)
    → ((cert : C) → (is : FitVerdict) × (triangles : List ℕ) × holds cert is triangles)
    → (r : Result C ℕ) (mesh : List ℕ) → (end : Outcome) × IsFitCheckOutcome files spacing grid holds r mesh end
judged-exists files spacing grid holds found (Ok cert) mesh =
    let v = found cert in
    let e = verdict-exists files spacing grid v.1 mesh v.0 in
    (e.0, (v.0, v.1, v.2, e.1))
judged-exists files spacing grid holds found (Err line) mesh =
    (text_outcome (rejection (BadLine line)) Rejected files, refl)

-- a certificate can be made

possible : (n : ℕ) (goal : Goal) → IsGoalOfWords goal → IsPossible (target_of n goal)
possible n (AtError thousandths) within = tt
possible n (InBudget budget) two = two

-- making a certificate of a fitted mesh has an outcome, where words may say the goal
pub fit_make-exists : (m : FitMaking) (grid : HeightField) (files : List NamedFile) → IsGoalOfWords m.goal →
    (end : Outcome) × IsJobOutcome (MakeFit m) grid files end
fit_make-exists m grid files two =
    let target : Target = target_of grid.n m.goal in
    let found = sound_found grid.n grid.heights target (possible grid.n m.goal two) in
    let made : IsFitMade m grid found.0 =
    record {
      triangles = found.1;
      sound = found.2;
      behind = found.3;
      few = sound-few grid.n grid.heights target found.0 found.1 found.2;
    } in
    (text_outcome (fit_cert_text found.0) Done 1, (found.0, made, refl))

-- what is accepted ends with Done

-- where the verdict certifies these triangles, and the file has their text, the outcome ends with Done
pub verdict-done : (files spacing : ℕ) (grid : HeightField) (triangles others mesh : List ℕ) (is : FitVerdict)
    (end : Outcome) (count deviation : ℕ) → is ≡ verdict.Certified count deviation → triangles ≡ others
    → mesh ≡ fit_text spacing grid triangles → IsFitVerdictOutcome files spacing grid others mesh is end
    → end.status ≡ Done
verdict-done files spacing grid triangles others mesh (verdict.Certified i k) end count deviation is one same (inl f) =
    ap (λ (o : Outcome). o.status) f.1
verdict-done files spacing grid triangles others mesh (verdict.Certified i k) end count deviation is one same (inr f) =
    absurd (difference-same mesh (fit_text spacing grid others) f.0 f.1
    (same ∙ ap (λ (l : List ℕ). fit_text spacing grid l) one))
verdict-done files spacing grid triangles others mesh (verdict.Rejected why) end count deviation is one same of =
    absurd (differ is)
  where
    differ : verdict.Rejected why ≡ verdict.Certified count deviation → ⊥
    differ e = cc

-- a check of a certificate that is certified, and of the text of its triangles, ends with Done
pub judged-done : {C : Type 0} (files spacing : ℕ) (grid : HeightField) (holds : C → FitVerdict → List ℕ → Type 0)
    (cert : C) → IsOneVerdict (holds cert) → (triangles mesh : List ℕ) (count deviation : ℕ) (end : Outcome)
    → holds cert (verdict.Certified count deviation) triangles → mesh ≡ fit_text spacing grid triangles
    → IsFitCheckOutcome files spacing grid holds (Ok cert) mesh end → end.status ≡ Done
judged-done files spacing grid holds cert one triangles mesh count deviation end sound same is =
    let that = one (verdict.Certified count deviation) is.0 triangles is.1 sound is.2 in
    verdict-done files spacing grid triangles is.1 mesh is.0 end count deviation that.0
    (sym (that.1 count deviation refl)) same is.3

-- a check by a certificate of a fitted mesh

-- the verdict on a certificate of a fitted mesh is one
fit-one : (grid : HeightField) (target : Target) (cert : FitCertificate) →
    IsOneVerdict (IsVerdictOf grid.n grid.heights target cert)
fit-one grid target cert is other triangles others v w =
    let Holds : FitVerdict → List ℕ → Type 0 = λ v l. IsVerdictOf grid.n grid.heights target cert v l in
    let same = verdict_one grid.n grid.heights target cert other is
    (verdict-is grid.n grid.heights target cert other others w)
    (verdict-is grid.n grid.heights target cert is triangles v) in (
      same,
      λ count deviation certified. mesh_one grid.n grid.heights target cert others triangles
          (subst (λ v. Holds v others) (same ∙ certified) w).0 (subst (λ v. Holds v triangles) certified v).0,
    )

module _ (c : FitChecking) (grid : HeightField) (files : List NamedFile) where
  abbrev Holds : FitCertificate → FitVerdict → List ℕ → Type 0
  Holds cert is triangles = IsVerdictOf grid.n grid.heights (target_of grid.n c.goal) cert is triangles

  abbrev the-cert : Result FitCertificate ℕ
  the-cert = fit_cert_in grid.n (bytes_of files c.certificate)

  abbrev the-mesh : List ℕ
  the-mesh = bytes_of files c.mesh

  -- it comes to one line
  pub fit_check-text : (end : Outcome) → IsJobOutcome (CheckFit c) grid files end → IsOneText end
  fit_check-text end is = judged-text 2 c.spacing grid Holds the-cert the-mesh end is

  -- it has one outcome alone
  pub fit_check-unique : (end other : Outcome) → IsJobOutcome (CheckFit c) grid files end
      → IsJobOutcome (CheckFit c) grid files other → end ≡ other
  fit_check-unique end other f g =
      judged-unique FitCertificate 2 c.spacing grid Holds (fit-one grid (target_of grid.n c.goal)) the-cert the-mesh end
      other f g

  -- and it has one
  pub fit_check-exists : (end : Outcome) × IsJobOutcome (CheckFit c) grid files end
  fit_check-exists = judged-exists 2 c.spacing grid Holds
      (λ cert. verdict_found grid.n grid.heights (target_of grid.n c.goal) cert) the-cert the-mesh

  -- of a faultless certificate and of the text of its triangles it ends with Done
  pub fit_check-done : (end : Outcome) → IsAcceptedFitCheck c grid files → IsJobOutcome (CheckFit c) grid files end
      → end.status ≡ Done
  fit_check-done end (cert, triangles, read, sound, same) is =
      judged-done 2 c.spacing grid Holds cert (fit-one grid (target_of grid.n c.goal) cert) triangles the-mesh
      (length triangles) (deviation_of grid.n grid.heights triangles) end (sound, refl, refl) same
      (subst (λ (r : Result FitCertificate ℕ). IsFitCheckOutcome 2 c.spacing grid Holds r the-mesh end) read is)

-- the mesh of a check that is done

-- a sound certificate is of the mesh of its target
pub sound-fits : (goal : Goal) (grid : HeightField) (cert : FitCertificate) (triangles : List ℕ)
    → IsFitSound grid.n grid.heights (target_of grid.n goal) cert triangles → IsFitFor goal grid triangles
sound-fits (AtError thousandths) grid cert triangles sound = sound-error grid.n grid.heights _ cert triangles sound
sound-fits (InBudget budget) grid cert triangles sound = sound-budget grid.n grid.heights budget cert triangles sound

-- The line of a check that certifies its mesh, the last of so many files.
abbrev pub CertifiesAs : ℕ → (List ℕ → Type 0) → Outcome → Type 0
CertifiesAs files certified end = (line : List ℕ) × certified line × (end ≡ text_outcome line Done files)

-- A verdict on a certificate, behind so many files, whose triangles are best ones, and are told so.
module _ (files spacing : ℕ) (grid : HeightField) (is_best is_fit : List ℕ → Type 0) (mesh : List ℕ) (end : Outcome)
    (done : end.status ≡ Done) where
  abbrev CertifiesOne : Type 0
  CertifiesOne = CertifiesAs (files + 1) (λ line. IsCertifiedAs spacing grid is_best is_fit mesh line) end

  compared-certifies : (triangles line : List ℕ) →
      IsCertifiedAs spacing grid is_best is_fit (fit_text spacing grid triangles) line
      → IsCompared (files + 1) mesh (fit_text spacing grid triangles) line end → CertifiesOne
  compared-certifies triangles line certified (inl f) =
      (line, subst (λ (l : List ℕ). IsCertifiedAs spacing grid is_best is_fit l line) (sym f.0) certified, f.1)
  compared-certifies triangles line certified (inr f) =
      absurd (not-done end (rejection (MeshDiffers f.0)) (files + 1) f.2 done)

  verdict-certifies : (triangles : List ℕ) (is : FitVerdict)
      → ((count deviation : ℕ) → is ≡ verdict.Certified count deviation → is_best triangles × is_fit triangles
      × (count ≡ length triangles) × (deviation ≡ deviation_of grid.n grid.heights triangles))
      → IsFitVerdictOutcome files spacing grid triangles mesh is end → CertifiesOne
  verdict-certifies triangles (verdict.Certified count deviation) right of =
      let v = right count deviation refl in
      compared-certifies triangles (certified_fit_line grid.n count deviation)
      (record {
        triangles = triangles;
        text = refl;
        best = v.0;
        fit = v.1;
        told = ap₂ (λ (i k : ℕ). certified_fit_line grid.n i k) v.2 v.3;
      }) of
  verdict-certifies triangles (verdict.Rejected why) right of =
      absurd (not-done end (fit_rejection why) files of done)

  -- a check that ends with Done comes to one line, which certifies the mesh, where the triangles of certificates are so
  pub judged-certifies : {C : Type 0} (holds : C → FitVerdict → List ℕ → Type 0)
      → ((cert : C) (triangles : List ℕ) (count deviation : ℕ) →
      holds cert (verdict.Certified count deviation) triangles → is_best triangles × is_fit triangles
      × (count ≡ length triangles) × (deviation ≡ deviation_of grid.n grid.heights triangles))
      → (r : Result C ℕ) → IsFitCheckOutcome files spacing grid holds r mesh end → CertifiesOne
  judged-certifies holds right (Ok cert) is =
      verdict-certifies is.1 is.0 (λ count deviation certified. right cert is.1 count deviation
      (subst (λ (v : FitVerdict). holds cert v is.1) certified is.2)) is.3
  judged-certifies holds right (Err line) is = absurd (not-done end (rejection (BadLine line)) files is done)

-- where it is done, the report got its line

-- its line stands, and it certifies the mesh
line-stands : (before now : Sinks) (files : ℕ) (certified : List ℕ → Type 0) (end : Outcome) →
    Stands before now end.acts → CertifiesAs files certified end
    → (line : List ℕ) × Grows before.report now.report line × certified line
line-stands before now files certified end stands certifies = (
  certifies.0,
  λ all told. stands.report_grows all told ∙ ap (λ (l : List ℕ). Some (all ++ l))
      (ap (λ (o : Outcome). report_of o.acts) certifies.2 ∙ append-nil certifies.0),
  certifies.1,
)

-- the outcome of words over an accepted grid is that of their job
pub job-outcome : TextsAreRead → (words : List (List ℕ)) (files : List NamedFile) (job : Job) (grid : HeightField)
    (run : IsRunOf words files job grid) (end : Outcome) → IsOutcome (command_of words) files end
    → IsJobOutcome job grid files end
job-outcome read_texts words files job grid run end is =
    let P : Option Command → Type 0 = λ c. IsOutcome c files end in
    let Q : Result HeightField PgmFault → Type 0 = λ r. IsGridOutcome job r files end in
    subst Q (read_texts grid (bytes_of files run.grid_name) run.valid run.file_text) (subst P run.is_command is)

module _ (read_texts : TextsAreRead) (words : List (List ℕ)) (files : List NamedFile) (job : Job)
    (grid : HeightField) (is : IsRunOf words files job grid)
    (before now : Sinks) (old new : ShelfState) (count : ℕ) (certified : List ℕ → Type 0)
    (certifies : (end : Outcome) → end.status ≡ Done → IsJobOutcome job grid files end →
    CertifiesAs count certified end) where
  done-certified : (status : Status) → IsTrue (is_complete status) → EndsRight before now old new words files status →
      status ≢ NoMemory → status ≢ ReadFault → status ≡ Done
      → (line : List ℕ) × Grows before.report now.report line × certified line
  done-certified status complete ends m r done =
      let e = ends.ends m r in
      let stands = e.2.complete complete in
      line-stands before now count certified e.0 stands.0
      (certifies e.0 (sym stands.1 ∙ done) (job-outcome read_texts words files job grid is e.0 e.1))

  -- where a check is done whose outcomes certify its mesh, the report got one line, by which its mesh is certified
  pub mesh-certified : (status : Status) → EndsRight before now old new words files status → status ≡ Done
      → (line : List ℕ) × Grows before.report now.report line × certified line
  mesh-certified status ends done =
      done-certified status (ap is_complete done) ends (λ e. cc) (λ e. cc) done

-- where a check of a fitted mesh is done, the report got one line, by which its mesh is certified
pub fit_mesh-certified : TextsAreRead → (words : List (List ℕ)) (files : List NamedFile) (c : FitChecking)
    (grid : HeightField) (is : IsRunOf words files (CheckFit c) grid) (before now : Sinks) (old new : ShelfState)
    (status : Status) → EndsRight before now old new words files status → status ≡ Done
    → (line : List ℕ) × Grows before.report now.report line × IsCertifiedFit c grid (bytes_of files c.mesh) line
fit_mesh-certified read_texts words files c grid is before now old new =
    mesh-certified read_texts words files (CheckFit c) grid is before now old new 3
    (λ line. IsCertifiedFit c grid (bytes_of files c.mesh) line)
    (λ end done of. judged-certifies 2 c.spacing grid (IsBestFit c.goal grid) (IsFitFor c.goal grid)
    (bytes_of files c.mesh) end done (Holds c grid files)
    (λ cert triangles count deviation v.
    let fit : IsFitFor c.goal grid triangles = sound-fits c.goal grid cert triangles v.0 in
    (fit-best c.goal grid triangles fit, fit, v.1, v.2))
    (fit_cert_in grid.n (bytes_of files c.certificate)) of)
