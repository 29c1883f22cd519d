-- What is written of a certificate with points is read back; and each line says one thing.
-- Words: IsPointOf, IsKeptCertificateOf, kept_lines_read, WrittenKeptLinesAreRead, WrittenKeptLinesAreEnded,
-- WrittenKeptLinesAreLines, kept_line_count, KeptLinesAreCounted.
use Rattle.std.specs.Prelude.{◌≡◌, ℕ, ◌+◌, ◌^◌, ◌≤◌, All, true, length, List, [], ◌∷◌, ◌++◌, Option, Some}
use Rattle.std.specs.List.{flat_map}
use Rattle.mesh_defs.specs.declared.point.Point.{Point}
use Rattle.cert_text.specs.Lines.{IsOneLine, lines_from}
use Rattle.certificate_laws.specs.declared.limits.TheConstants.{MOST_REASONS}
use Rattle.certificate_laws.specs.Keeping.{KeptCertificate}
use Rattle.cert_text.specs.FitCertReader.{fit_read_so_far}
use Rattle.cert_text.specs.KeptCert.{KeptReadSoFar, kept_read_so_far, nothing_kept_read, kept_line_in}
use Rattle.cert_text.specs.KeptCert.{kept_cert_text, kept_cert_lines}
use Rattle.cert_text.specs.FitLaws.{IsFitCertificateOf, fit_line_count}

-- a point of the grid with this n
pub record IsPointOf (n : ℕ) (p : Point) : Type 0 where
  pub column : p.x ≤ 2 ^ n
  pub row : p.y ≤ 2 ^ n

-- a certificate with points of the grid with this n, not too many
pub record IsKeptCertificateOf (n : ℕ) (cert : KeptCertificate) : Type 0 where
  pub few : length cert.needs ≤ MOST_REASONS
  pub needs : All (IsPointOf n) cert.needs
  pub rest : IsFitCertificateOf n cert.rest

-- behind these lines, where each may stand at its place
abbrev pub kept_lines_read : ℕ → KeptReadSoFar → List (List ℕ) → Option KeptReadSoFar
kept_lines_read n read lines = lines_from (kept_line_in n) read lines

-- the lines of a certificate are read as the certificate
abbrev pub WrittenKeptLinesAreRead : Type 0
WrittenKeptLinesAreRead = (n : ℕ) (cert : KeptCertificate) → IsKeptCertificateOf n cert →
    kept_lines_read n nothing_kept_read (kept_cert_lines cert) ≡ Some (kept_read_so_far cert.needs
    (fit_read_so_far (Some cert.rest.tolerance) true cert.rest.needed cert.rest.beyond))

-- and its text is these lines, each with an LF (10) behind it
abbrev pub WrittenKeptLinesAreEnded : Type 0
WrittenKeptLinesAreEnded =
    (cert : KeptCertificate) → kept_cert_text cert ≡ flat_map (λ line. line ++ 10 ∷ []) (kept_cert_lines cert)

-- so the text is cut into these lines again
abbrev pub WrittenKeptLinesAreLines : Type 0
WrittenKeptLinesAreLines =
    (n : ℕ) (cert : KeptCertificate) → IsKeptCertificateOf n cert → All IsOneLine (kept_cert_lines cert)

-- how many lines say as much: one for each point, and those of the certificate
abbrev pub kept_line_count : KeptReadSoFar → ℕ
kept_line_count read = length read.needs + fit_line_count read.rest

-- each accepted line is one of them
abbrev pub KeptLinesAreCounted : Type 0
KeptLinesAreCounted = (n : ℕ) (read next : KeptReadSoFar) (bytes : List ℕ) →
    kept_line_in n read bytes ≡ Some next → kept_line_count next ≡ kept_line_count read + 1
