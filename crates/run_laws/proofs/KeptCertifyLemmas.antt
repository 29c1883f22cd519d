-- What making and checking a certificate of a mesh that keeps points come to: there is an outcome, of a check one
-- alone, and a mesh that is certified has the fewest triangles of those that have the points as vertices.
use Rattle.std.proofs.Common.{◌≡◌, ℕ, List, length, Result, Ok, Err, refl, sym, ◌∙◌, ap, subst}
use Rattle.mesh_defs.specs.declared.point.Point.{Point}
use Rattle.mesh_defs.specs.HeightField.{HeightField}
use Rattle.fit_laws.specs.PlaneHeight.{deviation_of}
use Rattle.roam_edge.specs.Shelf.{NamedFile, bytes_of}
use Rattle.pgm_grid.specs.Laws.{TextsAreRead}
use Rattle.roam_script.specs.PointText.{PointsAreInGrid}
use Rattle.obj_write.specs.Written.{Grows}
use Rattle.certificate_laws.specs.declared.fit_reason.FitVerdict.{FitVerdict}
use Rattle.certificate_laws.specs.Keeping.{KeptCertificate, IsKeptSound, IsKeptVerdictOf}
use Rattle.certificate_laws.proofs.KeepingLemmas.{kept-least, kept-order, kept-few, kept-mesh_one, kept_found}
use Rattle.certificate_laws.proofs.KeepingLemmas.{kept-verdict_is, kept-verdict_one, kept_sound_found}
use Rattle.cert_text.specs.KeptCert.{kept_cert_text}
use Rattle.run_laws.specs.declared.status.Status.{Status}
use Rattle.run_laws.specs.declared.status.Status.TheVariants.{Done, ScriptRefused}
use Rattle.run_words.specs.Words.{KeptMaking, KeptChecking, CheckKept}
use Rattle.run_laws.specs.Walk.{Refusal}
use Rattle.run_laws.specs.CertFile.{kept_cert_in}
use Rattle.run_laws.specs.PointFile.{points_in}
use Rattle.run_laws.specs.Certify.{IsKeptMade}
use Rattle.run_laws.specs.Fit.{tolerance_of, IsKeptFor, IsKept, IsFewestKeeping}
use Rattle.run_laws.specs.Act.{Sinks}
use Rattle.run_laws.specs.ReportText.{line_refusal}
use Rattle.run_laws.specs.Outcome.{Outcome, text_outcome, IsFitCheckOutcome, IsKeptMakeOutcome, IsKeptCheckOutcome}
use Rattle.run_laws.specs.Outcome.{IsJobOutcome}
use Rattle.run_laws.specs.Promise.{ShelfState, EndsRight, IsAcceptedKeptCheck}
use Rattle.run_laws.specs.Headline.{IsRunOf, IsCertifiedKept}
use Rattle.run_laws.proofs.CertifyLemmas.{IsOneText}
use Rattle.run_laws.proofs.FitCertifyLemmas.{IsOneVerdict, judged-text, judged-unique, judged-exists, judged-done}
use Rattle.run_laws.proofs.FitCertifyLemmas.{CertifiesAs, judged-certifies, mesh-certified}
use Rattle.run_laws.proofs.KeepLemmas.{kept-best}
use Rattle.run_laws.proofs.PointFileLemmas.{points-in_grid}

-- making a certificate

-- what is made of points, or of their refusal, is one text
pub kept_make-text : (m : KeptMaking) (grid : HeightField) (answer : Result (List Point) Refusal) (end : Outcome) →
    IsKeptMakeOutcome m grid answer end → IsOneText end
kept_make-text m grid (Ok points) end is = (kept_cert_text is.0, Done, 2, is.2)
kept_make-text m grid (Err refusal) end is = (line_refusal refusal, ScriptRefused, 2, is)

-- there is one
pub kept_make-exists : (m : KeptMaking) (grid : HeightField) (answer : Result (List Point) Refusal) →
    (end : Outcome) × IsKeptMakeOutcome m grid answer end
kept_make-exists m grid (Ok points) =
    let n : ℕ = grid.n in
    let tolerance : ℕ = tolerance_of n m.thousandths in
    let found = kept_sound_found n grid.heights points tolerance in
    let made : IsKeptMade m points grid found.0 = record {
      triangles = found.1;
      sound = found.2;
      few_needs = found.3;
      few = kept-few n grid.heights points tolerance found.0 found.1 found.2;
    } in
    (text_outcome (kept_cert_text found.0) Done 2, (found.0, made, refl))
kept_make-exists m grid (Err refusal) = (text_outcome (line_refusal refusal) ScriptRefused 2, refl)

-- it is done where all lines of the points are accepted
pub kept_make-done : (m : KeptMaking) (grid : HeightField) (points : List Point) (end : Outcome) →
    IsKeptMakeOutcome m grid (Ok points) end → end.status ≡ Done
kept_make-done m grid points end is = ap (λ (o : Outcome). o.status) is.2

-- checking one

-- the verdict on a certificate of a mesh that keeps points is one
kept-one : (grid : HeightField) (points : List Point) (tolerance : ℕ) (cert : KeptCertificate) →
    IsOneVerdict (IsKeptVerdictOf grid.n grid.heights points tolerance cert)
kept-one grid points tolerance cert is other triangles others v w =
    let Holds : FitVerdict → List ℕ → Type 0 = λ v l. IsKeptVerdictOf grid.n grid.heights points tolerance cert v l in
    let same = kept-verdict_one grid.n grid.heights points tolerance cert other is
    (kept-verdict_is grid.n grid.heights points tolerance cert other others w)
    (kept-verdict_is grid.n grid.heights points tolerance cert is triangles v) in (
      same,
      λ count deviation certified. kept-mesh_one grid.n grid.heights points cert tolerance others triangles
          (subst (λ v. Holds v others) (same ∙ certified) w).0 (subst (λ v. Holds v triangles) certified v).0,
    )

module _ (c : KeptChecking) (grid : HeightField) (files : List NamedFile) where
  abbrev tolerance : ℕ
  tolerance = tolerance_of grid.n c.thousandths

  abbrev Holds : List Point → KeptCertificate → FitVerdict → List ℕ → Type 0
  Holds points cert is triangles = IsKeptVerdictOf grid.n grid.heights points tolerance cert is triangles

  abbrev the-points : Result (List Point) Refusal
  the-points = points_in grid.n (bytes_of files c.points)

  abbrev the-cert : Result KeptCertificate ℕ
  the-cert = kept_cert_in grid.n (bytes_of files c.certificate)

  abbrev the-mesh : List ℕ
  the-mesh = bytes_of files c.mesh

  abbrev Leads : Result (List Point) Refusal → Outcome → Type 0
  Leads answer end = IsKeptCheckOutcome c grid answer the-cert the-mesh end

  text : (answer : Result (List Point) Refusal) (end : Outcome) → Leads answer end → IsOneText end
  text (Ok points) end is = judged-text 3 c.spacing grid (Holds points) the-cert the-mesh end is
  text (Err refusal) end is = (line_refusal refusal, ScriptRefused, 2, is)

  unique : (answer : Result (List Point) Refusal) (end other : Outcome) → Leads answer end → Leads answer other
      → end ≡ other
  unique (Ok points) end other f g =
      judged-unique KeptCertificate 3 c.spacing grid (Holds points) (kept-one grid points tolerance) the-cert the-mesh
      end other f g
  unique (Err refusal) end other f g = f ∙ sym g

  exists : (answer : Result (List Point) Refusal) → (end : Outcome) × Leads answer end
  exists (Ok points) =
      judged-exists 3 c.spacing grid (Holds points)
      (λ cert. kept_found grid.n grid.heights points tolerance cert) the-cert the-mesh
  exists (Err refusal) = (text_outcome (line_refusal refusal) ScriptRefused 2, refl)

  -- what a check comes to is one line
  pub kept_check-text : (end : Outcome) → IsJobOutcome (CheckKept c) grid files end → IsOneText end
  kept_check-text end is = text the-points end is

  -- it has one outcome alone
  pub kept_check-unique : (end other : Outcome) → IsJobOutcome (CheckKept c) grid files end
      → IsJobOutcome (CheckKept c) grid files other → end ≡ other
  kept_check-unique end other f g = unique the-points end other f g

  -- and it has one
  pub kept_check-exists : (end : Outcome) × IsJobOutcome (CheckKept c) grid files end
  kept_check-exists = exists the-points

  -- of a faultless certificate and of the text of its triangles it ends with Done
  pub kept_check-done : (end : Outcome) → IsAcceptedKeptCheck c grid files → IsJobOutcome (CheckKept c) grid files end
      → end.status ≡ Done
  kept_check-done end (points, cert, triangles, found, read, sound, same) is =
      judged-done 3 c.spacing grid (Holds points) cert (kept-one grid points tolerance cert) triangles the-mesh
      (length triangles) (deviation_of grid.n grid.heights triangles) end (sound, refl, refl) same
      (subst (λ (r : Result KeptCertificate ℕ). IsFitCheckOutcome 3 c.spacing grid (Holds points) r the-mesh end) read
      (subst (λ (answer : Result (List Point) Refusal). Leads answer end) found is))

-- the mesh of a check that is done

-- a sound certificate is of the mesh of its error that keeps the points
pub sound-keeps : (thousandths : ℕ) (points : List Point) (grid : HeightField) (cert : KeptCertificate)
    (triangles : List ℕ) → IsKeptSound grid.n grid.heights points (tolerance_of grid.n thousandths) cert triangles
    → IsKept thousandths points grid triangles
sound-keeps thousandths points grid cert triangles sound =
    let tolerance : ℕ = tolerance_of grid.n thousandths in
    record {
      fit = kept-least grid.n grid.heights points tolerance cert triangles sound;
      in_order = kept-order grid.n grid.heights points tolerance cert triangles sound;
    }

-- the points are those of the file, and the check comes to one line, by which the mesh is certified
abbrev CertifiesPoints : KeptChecking → HeightField → Result (List Point) Refusal → List ℕ → Outcome → Type 0
CertifiesPoints c grid answer mesh end = (points : List Point) × (answer ≡ Ok points)
    × CertifiesAs 4 (λ line. IsCertifiedKept c points grid mesh line) end

kept_check-certifies : (c : KeptChecking) (grid : HeightField) (mesh : List ℕ) (end : Outcome) → end.status ≡ Done
    → (answer : Result (List Point) Refusal)
    → ((points : List Point) → answer ≡ Ok points → (triangles : List ℕ) →
    IsKeptFor c.thousandths points grid triangles → IsFewestKeeping c.thousandths points grid triangles)
    → (r : Result KeptCertificate ℕ) → IsKeptCheckOutcome c grid answer r mesh end
    → CertifiesPoints c grid answer mesh end
kept_check-certifies c grid mesh end done (Ok points) best r is = (
  points,
  refl,
  judged-certifies 3 c.spacing grid (IsFewestKeeping c.thousandths points grid) (IsKeptFor c.thousandths points grid)
      mesh end done (IsKeptVerdictOf grid.n grid.heights points (tolerance_of grid.n c.thousandths))
      (λ cert triangles count deviation v.
      let kept = sound-keeps c.thousandths points grid cert triangles v.0 in
      (best points refl triangles kept.fit, kept.fit, v.1, v.2)) r is,
)
kept_check-certifies c grid mesh end done (Err refusal) best r is =
    absurd (differ (sym (ap (λ (o : Outcome). o.status) is) ∙ done))
  where
    differ : ScriptRefused ≡ Done → ⊥
    differ e = cc

-- a line that certifies, told with the points
told-points : (c : KeptChecking) (grid : HeightField) (answer : Result (List Point) Refusal) (mesh : List ℕ)
    (end : Outcome) → CertifiesPoints c grid answer mesh end →
    CertifiesAs 4 (λ line. (points : List Point) × (answer ≡ Ok points) × IsCertifiedKept c points grid mesh line) end
told-points c grid answer mesh end (points, is, tells) = (tells.0, (points, is, tells.1), tells.2)

-- where a check of a mesh that keeps points is done, the report got one line, by which its mesh is certified
pub kept_mesh-certified : TextsAreRead → PointsAreInGrid → (words : List (List ℕ)) (files : List NamedFile)
    (c : KeptChecking) (grid : HeightField) (is : IsRunOf words files (CheckKept c) grid) (before now : Sinks)
    (old new : ShelfState) (status : Status) → EndsRight before now old new words files status → status ≡ Done
    → (points : List Point) × (points_in grid.n (bytes_of files c.points) ≡ Ok points) × (line : List ℕ)
    × Grows before.report now.report line × IsCertifiedKept c points grid (bytes_of files c.mesh) line
kept_mesh-certified read_texts in_grid words files c grid is before now old new status ends done =
    let answer : Result (List Point) Refusal = points_in grid.n (bytes_of files c.points) in
    let mesh : List ℕ = bytes_of files c.mesh in
    let certified = mesh-certified read_texts words files (CheckKept c) grid is before now old new 4
    (λ line. (points : List Point) × (answer ≡ Ok points) × IsCertifiedKept c points grid mesh line)
    (λ end over of. told-points c grid answer mesh end (kept_check-certifies c grid mesh end over answer
    (λ points found triangles. kept-best c.thousandths points grid
    (points-in_grid in_grid grid.n (bytes_of files c.points) points found) triangles)
    (kept_cert_in grid.n (bytes_of files c.certificate)) of))
    status ends done in
    (certified.2.0, certified.2.1, certified.0, certified.1, certified.2.2)
