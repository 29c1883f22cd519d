-- What is written of a certificate of a fitted mesh is read back; and each line says one thing.
-- Words: IsWitnessOf, IsFitCertificateOf, fit_lines_read, WrittenFitLinesAreRead, WrittenFitLinesAreEnded,
-- WrittenFitLinesAreLines, once, fit_line_count, FitLinesAreCounted.
use Rattle.std.specs.Prelude.{◌≡◌, ℕ, ◌+◌, ◌^◌, ◌<◌, ◌≤◌, All, Bool, true, false, length, List, [], ◌∷◌, ◌++◌, Option}
use Rattle.std.specs.Prelude.{Some, None}
use Rattle.std.specs.List.{flat_map}
use Rattle.mesh_defs.specs.Triangle.{IsSplittable}
use Rattle.cert_text.specs.Lines.{IsOneLine, lines_from}
use Rattle.certificate_laws.specs.declared.fit_reason.Witness.{Witness}
use Rattle.certificate_laws.specs.FitCertificate.{FitCertificate}
use Rattle.cert_text.specs.FitCertReader.{FitReadSoFar, fit_read_so_far, nothing_fit_read, fit_line_in}
use Rattle.cert_text.specs.FitCertReader.{AreFewFitReasons}
use Rattle.cert_text.specs.FitCertText.{fit_cert_text, fit_cert_lines}

-- a reason of a triangle that may be split and a point of the grid with this n
pub record IsWitnessOf (n : ℕ) (r : Witness) : Type 0 where
  pub splittable : IsSplittable n r.triangle
  pub column : r.x ≤ 2 ^ n
  pub row : r.y ≤ 2 ^ n

-- a certificate of the grid with this n: a tolerance of 32 bits, and reasons of its triangles, not too many
pub record IsFitCertificateOf (n : ℕ) (cert : FitCertificate) : Type 0 where
  pub few : AreFewFitReasons n cert.needed cert.beyond
  pub tolerance : cert.tolerance < 2 ^ 32
  pub needed : All (IsWitnessOf n) cert.needed
  pub beyond : All (IsWitnessOf n) cert.beyond

-- behind these lines, where each may stand at its place
abbrev pub fit_lines_read : ℕ → FitReadSoFar → List (List ℕ) → Option FitReadSoFar
fit_lines_read n read lines = lines_from (fit_line_in n) read lines

-- the lines of a certificate are read as the certificate
abbrev pub WrittenFitLinesAreRead : Type 0
WrittenFitLinesAreRead = (n : ℕ) (cert : FitCertificate) → IsFitCertificateOf n cert →
    fit_lines_read n nothing_fit_read (fit_cert_lines cert)
    ≡ Some (fit_read_so_far (Some cert.tolerance) true cert.needed cert.beyond)

-- and its text is these lines, each with an LF (10) behind it
abbrev pub WrittenFitLinesAreEnded : Type 0
WrittenFitLinesAreEnded =
    (cert : FitCertificate) → fit_cert_text cert ≡ flat_map (λ line. line ++ 10 ∷ []) (fit_cert_lines cert)

-- so the text is cut into these lines again
abbrev pub WrittenFitLinesAreLines : Type 0
WrittenFitLinesAreLines =
    (n : ℕ) (cert : FitCertificate) → IsFitCertificateOf n cert → All IsOneLine (fit_cert_lines cert)

-- one for a line that is there once at most
abbrev pub once : Bool → ℕ
once true = 1
once false = 0

-- how many lines say as much: one for the tolerance and one for the mesh, if they were read, and one for each reason
abbrev pub fit_line_count : FitReadSoFar → ℕ
fit_line_count read =
    (elim read.tolerance as (λ _. ℕ) [ None ↦ 0 | Some own ↦ 1 ])
    + (once read.mesh + (length read.needed + length read.beyond))

-- each accepted line is one of them
abbrev pub FitLinesAreCounted : Type 0
FitLinesAreCounted = (n : ℕ) (read next : FitReadSoFar) (bytes : List ℕ) →
    fit_line_in n read bytes ≡ Some next → fit_line_count next ≡ fit_line_count read + 1
