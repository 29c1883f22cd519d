-- A certificate that is made is read back from its text, and a check of its mesh accepts it; the same of fitted meshes.
use Rattle.std.proofs.Common.{◌≡◌, ◌≢◌, ℕ, ◌+◌, ◌-◌, ◌*◌, ◌/◌, ◌<◌, ◌≤◌, Bool, true, false, List, [], ◌∷◌, ◌++◌}
use Rattle.std.proofs.Common.{Option, Some, None, Result, Ok, Err, refl, sym, ◌∙◌, ap, subst, arith, append_assoc, ◌^◌}
use Rattle.std.proofs.Common.{pow_mono, mul-le-mul_left, All, length}
use Rattle.std.specs.Prelude.{unsigned_abs}
use Rattle.std.specs.List.{AllByRecursion, flat_map}
use Rattle.std.proofs.lemmas.List.Elements.{recursion_from_All, All-from_recursion, All-contains}
use Rattle.std.proofs.lemmas.Option.{none-some}
use Rattle.mesh_defs.specs.declared.point.Point.{Point}
use Rattle.mesh_defs.specs.HeightField.{HeightField, IsHeightField}
use Rattle.mesh_defs.specs.BoundingBox.{CameraAt}
use Rattle.mesh_defs.specs.Triangle.{IsSplittable}
use Rattle.mesh_defs.specs.Priority.{worst_of}
use Rattle.mesh_defs.specs.State.{State, priority_in, text_in, start_state, with_camera}
use Rattle.certificate_laws.specs.declared.reason.Reason.{Reason}
use Rattle.certificate_laws.specs.Certificate.{AreReasons, IsSound}
use Rattle.bintree_laws.specs.Corners.{IsInSquare}
use Rattle.cert_text.specs.Lines.{IsOneLine, lines_from}
use Rattle.cert_text.specs.Certificate.{Certificate}
use Rattle.cert_text.specs.CertReader.{ReadSoFar, read_so_far, nothing_read, cert_line_in}
use Rattle.cert_text.specs.CertText.{cert_text, cert_lines}
use Rattle.cert_text.specs.Laws.{IsCertificateOf, lines_read, WrittenLinesAreRead, WrittenLinesAreEnded}
use Rattle.cert_text.specs.Laws.{WrittenLinesAreLines}
use Rattle.certificate_laws.specs.declared.fit_reason.Witness.{Witness}
use Rattle.certificate_laws.specs.FitCertificate.{FitCertificate, LeadsTo, IsFitSound}
use Rattle.certificate_laws.specs.declared.limits.TheConstants.{MOST_REASONS}
use Rattle.certificate_laws.specs.Keeping.{KeptCertificate, IsNeed, IsKeptSound}
use Rattle.certificate_laws.proofs.FitSoundLemmas.{sound-low, sound-order}
use Rattle.cert_text.specs.FitCertReader.{fit_line_in}
use Rattle.cert_text.specs.FitCertReader as fit
use Rattle.cert_text.specs.FitCertText.{fit_cert_text, fit_cert_lines}
use Rattle.cert_text.specs.FitLaws as written
use Rattle.cert_text.specs.KeptCert.{kept_line_in, kept_cert_text, kept_cert_lines}
use Rattle.cert_text.specs.KeptCert as kept
use Rattle.cert_text.specs.KeptLaws.{IsPointOf, IsKeptCertificateOf, WrittenKeptLinesAreRead}
use Rattle.cert_text.specs.KeptLaws.{WrittenKeptLinesAreEnded, WrittenKeptLinesAreLines}
use Rattle.roam_script.specs.PointText.{most_points}
use Rattle.roam_edge.specs.Shelf.{NamedFile, bytes_of}
use Rattle.run_laws.specs.Walk.{lines_of}
use Rattle.run_words.specs.Words.{Making, Checking, Goal, AtError, InBudget, FitMaking, FitChecking, KeptMaking}
use Rattle.run_words.specs.Words.{KeptChecking, greatest_error}
use Rattle.run_laws.specs.CertFile.{lines_behind, cert_of, cert_in, fit_cert_of, fit_cert_in, kept_cert_of, kept_cert_in}
use Rattle.run_laws.specs.PointFile.{points_in}
use Rattle.run_laws.specs.Certify.{makes_at, IsMade, IsFaultless, IsFitMade, IsKeptMade}
use Rattle.run_laws.specs.Fit.{tolerance_of, target_of, IsFitted, IsKept, fit_text}
use Rattle.run_laws.specs.Promise.{IsAcceptedCheck, IsAcceptedFitCheck, IsAcceptedKeptCheck}
use Rattle.run_laws.proofs.LineLemmas.{lines_of-ends}
use Rattle.run_laws.proofs.OutcomeLemmas.{IsWithinReach}
use Rattle.run_laws.proofs.CertFileLemmas.{IsFormat, file-said, cert-format, fit-format, kept-format}
use Rattle.run_laws.proofs.FitLemmas.{IsGoalOfWords, fitted-one}
use Rattle.run_laws.proofs.FitCertifyLemmas.{sound-fits}
use Rattle.run_laws.proofs.KeepLemmas.{kept-one}
use Rattle.run_laws.proofs.KeptCertifyLemmas.{sound-keeps}

-- lines that are ended are cut into these lines again
lines_of-lines : (lines : List (List ℕ)) → AllByRecursion IsOneLine lines →
    lines_of (flat_map (λ line. line ++ 10 ∷ []) lines) ≡ lines
lines_of-lines [] one = refl
lines_of-lines (line ∷ lines) one =
    ap lines_of (append_assoc line (10 ∷ []) (flat_map (λ l. l ++ 10 ∷ []) lines))
    ∙ (lines_of-ends line (flat_map (λ l. l ++ 10 ∷ []) lines) (recursion_from_All (λ byte. byte ≢ 10) line one.0)
    ∙ ap (λ (l : List (List ℕ)). line ∷ l) (lines_of-lines lines one.1))

-- lines that may all stand are read
read-said : {S : Type 0} (step : S → List ℕ → Option S) (number : ℕ) (said last : S) (lines : List (List ℕ)) →
    lines_from step said lines ≡ Some last
    → lines_behind step number said lines ≡ Ok last
read-said {S = S} step number said last [] is = of-some said is
  where
    of-some : (s : S) → Some s ≡ Some last → let answer : Result S ℕ = Ok s in answer ≡ Ok last
    of-some s e = cc
read-said {S = S} step number said last (bytes ∷ lines) is =
    go (step said bytes) (λ next e. read-said step (number + 1) next last lines e) is
  where
    go : (answer : Option S) →
        ((next : S) → lines_from step next lines ≡ Some last → lines_behind step (number + 1) next lines ≡ Ok last)
        → (elim answer as (λ _. Option S) [ None ↦ None | Some next ↦ lines_from step next lines ]) ≡ Some last
        → (elim answer as (λ _. Result S ℕ) [
          | None ↦ Err number
          | Some next ↦ lines_behind step (number + 1) next lines
        ]) ≡ Ok last
    go None rest e = absurd (none-some last e)
    go (Some next) rest e = rest next e

-- the lines of a certificate are read one behind the other
lines-one : (n : ℕ) (said : ReadSoFar) (lines : List (List ℕ)) →
    lines_from (cert_line_in n) said lines ≡ lines_read n said lines
lines-one n said [] = refl
lines-one n said (bytes ∷ lines) = go (cert_line_in n said bytes) (λ next. lines-one n next lines)
  where
    go : (answer : Option ReadSoFar) →
        ((next : ReadSoFar) → lines_from (cert_line_in n) next lines ≡ lines_read n next lines)
        → (elim answer as (λ _. Option ReadSoFar) [ None ↦ None | Some next ↦ lines_from (cert_line_in n) next lines ])
        ≡ (elim answer as (λ _. Option ReadSoFar) [ None ↦ None | Some next ↦ lines_read n next lines ])
    go None rest = refl
    go (Some next) rest = rest next

-- the triangles of reasons may be split
reasons-may : (n worst : ℕ) (priority : ℕ → ℕ) (before reasons : List Reason) →
    AreReasons n priority worst before reasons
    → AllByRecursion (λ (r : Reason). IsSplittable n r.triangle) reasons
reasons-may n worst priority before [] are = tt
reasons-may n worst priority before (r ∷ reasons) are =
    (are.0.splittable, reasons-may n worst priority (before ++ r ∷ []) reasons are.1)

-- a text of ended lines, each of which may stand at its place, is what these come to
text-back : {S C : Type 0} (step : S → List ℕ → Option S) (start : S) (finish : S → Result C ℕ)
    (file : List ℕ → Result C ℕ) → IsFormat step start finish file → (bytes : List ℕ) (lines : List (List ℕ)) (all : S)
    → bytes ≡ flat_map (λ line. line ++ 10 ∷ []) lines → All IsOneLine lines → lines_from step start lines ≡ Some all
    → file bytes ≡ finish all
text-back step start finish file format bytes lines all ended whole read =
    file-said step start finish file format bytes (Ok all)
    (ap (λ (l : List ℕ). lines_behind step 1 start (lines_of l)) ended
    ∙ (ap (λ (l : List (List ℕ)). lines_behind step 1 start l)
    (lines_of-lines lines (recursion_from_All IsOneLine lines whole))
    ∙ read-said step 1 start all lines read))

-- a certificate of a fitted mesh is read back from its text
pub fit-back : written.WrittenFitLinesAreRead → written.WrittenFitLinesAreEnded → written.WrittenFitLinesAreLines
    → (n : ℕ) (cert : FitCertificate) → written.IsFitCertificateOf n cert →
    fit_cert_in n (fit_cert_text cert) ≡ Ok cert
fit-back read ended whole n cert is =
    text-back (fit_line_in n) fit.nothing_fit_read fit_cert_of (fit_cert_in n) (fit-format n)
    (fit_cert_text cert) (fit_cert_lines cert)
    (fit.fit_read_so_far (Some cert.tolerance) true cert.needed cert.beyond) (ended cert) (whole n cert is)
    (read n cert is)

-- and so is one of a mesh that keeps points
pub kept-back : WrittenKeptLinesAreRead → WrittenKeptLinesAreEnded → WrittenKeptLinesAreLines
    → (n : ℕ) (cert : KeptCertificate) → IsKeptCertificateOf n cert → kept_cert_in n (kept_cert_text cert) ≡ Ok cert
kept-back read ended whole n cert is =
    text-back (kept_line_in n) kept.nothing_kept_read kept_cert_of (kept_cert_in n) (kept-format n)
    (kept_cert_text cert) (kept_cert_lines cert)
    (kept.kept_read_so_far cert.needs
    (fit.fit_read_so_far (Some cert.rest.tolerance) true cert.rest.needed cert.rest.beyond))
    (ended cert) (whole n cert is) (read n cert is)

module _ (read : WrittenLinesAreRead) (ended : WrittenLinesAreEnded) (whole : WrittenLinesAreLines) where
  -- a certificate of the grid is read back from its text
  pub cert-back : (n : ℕ) (cert : Certificate) → IsCertificateOf n cert → cert_in n (cert_text cert) ≡ Ok cert
  cert-back n cert is =
      text-back (cert_line_in n) nothing_read cert_of (cert_in n) (cert-format n) (cert_text cert) (cert_lines cert)
      (read_so_far (Some cert.camera) cert.leaves cert.reasons) (ended cert) (whole n cert is)
      (lines-one n nothing_read (cert_lines cert) ∙ read n cert is)

  module _ (m : Making) (grid : HeightField) (cert : Certificate) (range : (1 ≤ grid.n) × (grid.n ≤ 14))
      (near : IsWithinReach m) (made : IsMade m grid cert) where
    abbrev state : State
    state = makes_at m grid

    -- what is made is a certificate of the grid
    made-certificate : IsCertificateOf grid.n cert
    made-certificate =
        let within = made.sound.within in
        let few = made.few in
        let most = near.high in
        record {
          camera = record {
            x_small = subst (λ (place : CameraAt). unsigned_abs place.x ≤ 2 ^ 30) (sym made.camera) near.x_near;
            y_small = subst (λ (place : CameraAt). unsigned_abs place.y ≤ 2 ^ 30) (sym made.camera) near.y_near;
            z_small = subst (λ (place : CameraAt). unsigned_abs place.z ≤ 2 ^ 30) (sym made.camera) near.z_near;
          };
          few = record {
            in_grid = range;
            addresses = made.sound.conforming.addresses;
            splittable =
                All-from_recursion (λ (r : Reason). IsSplittable grid.n r.triangle) cert.reasons (reasons-may grid.n
                (worst_of (priority_in state) cert.leaves) (priority_in state) [] cert.reasons made.sound.reasoned);
            few_leaves = omega (arith, within, most);
            few_reasons = omega (arith, few, most);
          };
        }

    -- and a check accepts it
    made-faultless : (c : Checking) → c.budget ≡ m.budget → c.spacing ≡ m.spacing → IsFaultless c grid cert
    made-faultless c budget spacing =
        let P : ℕ → ℕ → CameraAt → Type 0 = λ most step place. IsSound grid.n most
        (priority_in (with_camera place (start_state grid step most))) cert.leaves cert.reasons in
        subst (λ (place : CameraAt). P c.budget c.spacing place) (sym made.camera)
        (subst (λ (step : ℕ). P c.budget step m.camera) (sym spacing)
        (subst (λ (most : ℕ). P most m.spacing m.camera) (sym budget) made.sound))

    -- a check of its text and of the text of its mesh, at the same budget and spacing, is accepted
    pub made-accepted : (c : Checking) (files : List NamedFile) → c.budget ≡ m.budget → c.spacing ≡ m.spacing →
        bytes_of files c.certificate ≡ cert_text cert
        → bytes_of files c.mesh ≡ text_in state cert.leaves → IsAcceptedCheck c grid files
    made-accepted c files budget spacing text mesh = (
      cert,
      ap (cert_in grid.n) text ∙ cert-back grid.n cert made-certificate,
      made-faultless c budget spacing,
      mesh ∙ (ap (λ (most : ℕ). text_in (with_camera m.camera (start_state grid m.spacing most)) cert.leaves)
          (sym budget)
          ∙ (ap (λ (step : ℕ). text_in (with_camera m.camera (start_state grid step c.budget)) cert.leaves)
          (sym spacing)
          ∙ ap (λ (place : CameraAt). text_in (with_camera place (start_state grid c.spacing c.budget)) cert.leaves)
          (sym made.camera))),
    )

-- a certificate of a fitted mesh

-- the reasons are of the grid
leads-of : (n : ℕ) (heights : List ℕ) (tolerance : ℕ) (has : ℕ → Bool) (reasons : List Witness) (after : ℕ → Bool) →
    LeadsTo n heights tolerance has reasons after → AllByRecursion (written.IsWitnessOf n) reasons
leads-of n heights tolerance has [] after leads = tt
leads-of n heights tolerance has (r ∷ reasons) after leads = (
  record { splittable = leads.1.splittable; column = leads.1.off.column; row = leads.1.off.row },
  leads-of n heights tolerance leads.0 reasons after leads.3,
)

-- a grid of a file has at most as many reasons as a certificate may
file-end : (n : ℕ) → n ≤ 11 → 2 ^ (2 * n + 1) ≤ 2 ^ 23
file-end n high = let few : 2 * n + 1 ≤ 23 = omega arith in pow_mono few

-- its tolerance has 32 bits: that of an error is within the bound of words, and that of a budget is no height of a grid
-- above 65535
tolerance-small : (goal : Goal) (grid : HeightField) (cert : FitCertificate) (triangles : List ℕ) →
    IsHeightField grid → IsGoalOfWords goal →
    IsFitSound grid.n grid.heights (target_of grid.n goal) cert triangles → cert.tolerance < 2 ^ 32
tolerance-small (AtError thousandths) grid cert triangles valid high sound =
    let own : cert.tolerance ≡ thousandths * 2 ^ grid.n / 1000 = sound.own in
    let side : 2 ^ grid.n ≤ 2 ^ 14 = pow_mono valid.n_high in
    let units : thousandths * 2 ^ grid.n ≤ thousandths * 2 ^ 14 = mul-le-mul_left thousandths side in
    let most : thousandths ≤ 65535999 = high in
    omega arith
tolerance-small (InBudget budget) grid cert triangles valid low sound =
    let own : cert.tolerance ≤ 2 ^ grid.n * grid.maxval =
    sound-low grid.n grid.heights budget grid.maxval cert triangles valid.bounded sound in
    let side : 2 ^ grid.n ≤ 2 ^ 14 = pow_mono valid.n_high in
    let top : 2 ^ grid.n * grid.maxval ≤ 2 ^ grid.n * 65535 = mul-le-mul_left (2 ^ grid.n) valid.maxval_high in
    omega arith

-- the triangles of a sound one are fitted
sound-fitted : (goal : Goal) (grid : HeightField) (cert : FitCertificate) (triangles : List ℕ) →
    IsFitSound grid.n grid.heights (target_of grid.n goal) cert triangles → IsFitted goal grid triangles
sound-fitted goal grid cert triangles sound = record {
  fit = sound-fits goal grid cert triangles sound;
  in_order = sound-order grid.n grid.heights (target_of grid.n goal) cert triangles sound;
}

module _ (read : written.WrittenFitLinesAreRead) (ended : written.WrittenFitLinesAreEnded)
    (whole : written.WrittenFitLinesAreLines) (m : FitMaking) (grid : HeightField) (cert : FitCertificate)
    (valid : IsHeightField grid) (of_file : grid.n ≤ 11) (said : IsGoalOfWords m.goal)
    (made : IsFitMade m grid cert) where
  -- what is made is a certificate of the grid
  made-fit_certificate : written.IsFitCertificateOf grid.n cert
  made-fit_certificate =
      let n : ℕ = grid.n in
      let sound = made.sound in
      let few = made.few in
      let end = file-end n of_file in
      record {
        few = record {
          in_grid = (valid.n_low, valid.n_high);
          few_needed = omega arith;
          few_beyond = omega arith;
        };
        tolerance = tolerance-small m.goal grid cert made.triangles valid said sound;
        needed = All-from_recursion (written.IsWitnessOf n) cert.needed
            (leads-of n grid.heights cert.tolerance (λ a. false) cert.needed sound.has sound.fitted.needed);
        beyond = All-from_recursion (written.IsWitnessOf n) cert.beyond
            (leads-of n grid.heights (cert.tolerance - 1) sound.has cert.beyond sound.over sound.beyond);
      }

  -- and a check of its text and of the text of the mesh that is fitted, for the same target, is accepted
  pub fit_made-accepted : (c : FitChecking) (files : List NamedFile) (triangles : List ℕ) → c.goal ≡ m.goal →
      IsFitted m.goal grid triangles → bytes_of files c.certificate ≡ fit_cert_text cert
      → bytes_of files c.mesh ≡ fit_text c.spacing grid triangles → IsAcceptedFitCheck c grid files
  fit_made-accepted c files triangles goal fitted text mesh =
      let same : triangles ≡ made.triangles =
      fitted-one m.goal grid triangles made.triangles fitted
      (sound-fitted m.goal grid cert made.triangles made.sound) in (
        cert,
        made.triangles,
        ap (fit_cert_in grid.n) text ∙ fit-back read ended whole grid.n cert made-fit_certificate,
        subst (λ (t : Goal). IsFitSound grid.n grid.heights (target_of grid.n t) cert made.triangles) (sym goal)
            made.sound,
        mesh ∙ ap (λ (l : List ℕ). fit_text c.spacing grid l) same,
      )

-- and of a mesh that keeps points

module _ (read : WrittenKeptLinesAreRead) (ended : WrittenKeptLinesAreEnded) (whole : WrittenKeptLinesAreLines)
    (m : KeptMaking) (grid : HeightField) (points : List Point) (cert : KeptCertificate) (valid : IsHeightField grid)
    (of_file : grid.n ≤ 11) (high : m.thousandths ≤ greatest_error) (inside : All (IsInSquare (2 ^ grid.n)) points)
    (most : length points ≤ most_points grid.n) (made : IsKeptMade m points grid cert) where
  -- a needed point is one of the grid
  need-point : (p : Point) → IsNeed grid.n points p → IsPointOf grid.n p
  need-point p need =
      let in_square = All-contains (IsInSquare (2 ^ grid.n)) points p inside need.kept in
      record { column = in_square.x; row = in_square.y }

  -- what is made is a certificate of the grid
  made-kept_certificate : IsKeptCertificateOf grid.n cert
  made-kept_certificate =
      let n : ℕ = grid.n in
      let sound = made.sound in
      let few = made.few in
      let end = file-end n of_file in
      let leads = sound.fit.leads in
      let side : 2 ^ n ≤ 2 ^ 11 = pow_mono of_file in
      let units : m.thousandths * 2 ^ n ≤ m.thousandths * 2 ^ 11 = mul-le-mul_left m.thousandths side in
      let square : (2 ^ n + 1) * (2 ^ n + 1) ≤ (2 ^ n + 1) * (2 ^ 11 + 1) =
      mul-le-mul_left (2 ^ n + 1) (omega (arith, side)) in
      let own : cert.rest.tolerance ≡ m.thousandths * 2 ^ n / 1000 = sound.own in
      record {
        few = let needs = made.few_needs in omega (arith, needs, most, square, side);
        needs = All-from_recursion (IsPointOf n) cert.needs (points-of cert.needs
            (recursion_from_All (IsNeed n points) cert.needs leads.needs));
        rest = record {
          few = record {
            in_grid = (valid.n_low, valid.n_high);
            few_needed = omega arith;
            few_beyond = subst (λ (l : List Witness). length l ≤ MOST_REASONS) (sym sound.behind) (omega arith);
          };
          tolerance = omega (arith, own, units, high);
          needed = All-from_recursion (written.IsWitnessOf n) cert.rest.needed
              (leads-of n grid.heights cert.rest.tolerance leads.start cert.rest.needed sound.has leads.needed);
          beyond = subst (λ (l : List Witness). All (written.IsWitnessOf n) l) (sym sound.behind)
              (All-from_recursion (written.IsWitnessOf n) [] tt);
        };
      }
    where
      points-of : (needs : List Point) → AllByRecursion (IsNeed grid.n points) needs →
          AllByRecursion (IsPointOf grid.n) needs
      points-of [] are = tt
      points-of (p ∷ needs) are = (need-point p are.0, points-of needs are.1)

  -- and a check of its text and of the text of the mesh that is fitted and keeps the points, for the same error and
  -- points, is accepted
  pub kept_made-accepted : (c : KeptChecking) (files : List NamedFile) (triangles : List ℕ) →
      c.thousandths ≡ m.thousandths → IsKept m.thousandths points grid triangles →
      points_in grid.n (bytes_of files c.points) ≡ Ok points → bytes_of files c.certificate ≡ kept_cert_text cert
      → bytes_of files c.mesh ≡ fit_text c.spacing grid triangles → IsAcceptedKeptCheck c grid files
  kept_made-accepted c files triangles error fitted found text mesh =
      let same : triangles ≡ made.triangles = kept-one m.thousandths points grid triangles made.triangles fitted
      (sound-keeps m.thousandths points grid cert made.triangles made.sound) in (
        points,
        cert,
        made.triangles,
        found,
        ap (kept_cert_in grid.n) text ∙ kept-back read ended whole grid.n cert made-kept_certificate,
        subst (λ (k : ℕ). IsKeptSound grid.n grid.heights points (tolerance_of grid.n k) cert made.triangles)
            (sym error) made.sound,
        mesh ∙ ap (λ (l : List ℕ). fit_text c.spacing grid l) same,
      )
