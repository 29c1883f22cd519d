-- What is written of a certificate is read back; and each line says one thing.
-- Words: IsCertificateOf, lines_read, WrittenLinesAreRead, WrittenLinesAreEnded, WrittenLinesAreLines, line_count,
-- LinesAreCounted.
use Rattle.std.specs.Prelude.{◌≡◌, ℕ, ◌+◌, All, length, List, [], ◌∷◌, ◌++◌, Option, Some, None}
use Rattle.std.specs.List.{flat_map}
use Rattle.cert_text.specs.Lines.{lines_from}
pub use Rattle.cert_text.specs.Lines.{IsOneLine}
use Rattle.view_priority.specs.Camera.{IsCamera}
use Rattle.cert_text.specs.Certificate.{Certificate}
use Rattle.cert_text.specs.CertReader.{ReadSoFar, read_so_far, nothing_read, cert_line_in, AreFew}
use Rattle.cert_text.specs.CertText.{cert_text, cert_lines}

-- a certificate of the grid with this n: a camera, and leaves and reasons of its triangles, not too many
pub record IsCertificateOf (n : ℕ) (cert : Certificate) : Type 0 where
  pub camera : IsCamera cert.camera
  pub few : AreFew n cert.leaves cert.reasons

-- behind these lines, where each may stand at its place
abbrev pub lines_read : ℕ → ReadSoFar → List (List ℕ) → Option ReadSoFar
lines_read n read lines = lines_from (cert_line_in n) read lines

-- the lines of a certificate are read as the certificate
abbrev pub WrittenLinesAreRead : Type 0
WrittenLinesAreRead = (n : ℕ) (cert : Certificate) → IsCertificateOf n cert →
    lines_read n nothing_read (cert_lines cert) ≡ Some (read_so_far (Some cert.camera) cert.leaves cert.reasons)

-- and its text is these lines, each with an LF (10) behind it
abbrev pub WrittenLinesAreEnded : Type 0
WrittenLinesAreEnded = (cert : Certificate) → cert_text cert ≡ flat_map (λ line. line ++ 10 ∷ []) (cert_lines cert)

-- so the text is cut into these lines again
abbrev pub WrittenLinesAreLines : Type 0
WrittenLinesAreLines = (n : ℕ) (cert : Certificate) → IsCertificateOf n cert → All IsOneLine (cert_lines cert)

-- how many lines say as much: one for the camera, if it was read, and one for each leaf and each reason
abbrev pub line_count : ReadSoFar → ℕ
line_count read =
    (elim read.camera as (λ _. ℕ) [ None ↦ 0 | Some seen_from ↦ 1 ]) + (length read.leaves + length read.reasons)

-- each accepted line is one of them
abbrev pub LinesAreCounted : Type 0
LinesAreCounted =
    (n : ℕ) (read next : ReadSoFar) (bytes : List ℕ) → cert_line_in n read bytes ≡ Some next →
    line_count next ≡ line_count read + 1
