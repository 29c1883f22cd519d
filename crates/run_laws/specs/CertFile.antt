-- How far the bytes of a certificate's file lead: its lines in order, up to its end or to the first that is refused.
-- The same of certificates of meshes and of fitted meshes, which differ in what a line is. This project's own.
-- Words: lines_behind, lines_in, file_in, FilePlace, HaveCome, said_behind, said_in, cert_of, cert_in, CertPlace,
-- HasCertCome, CertHasRead, fit_cert_of, fit_cert_in, FitCertPlace, HasFitCertCome, FitCertHasRead, kept_cert_of,
-- kept_cert_in, KeptCertPlace, HasKeptCertCome, KeptCertHasRead, TakesLines, EndsLines.
use Rattle.std.specs.Prelude.{◌≡◌, ◌≢◌, ℕ, ◌+◌, ◌≤◌, if◌then◌else◌, List, [], ◌∷◌, ◌++◌, length, All, Option, Some}
use Rattle.std.specs.Prelude.{None, Result, Ok, Err, OnOk, IfOk}
use Rattle.roam_script.specs.declared.limits.TheConstants.{MOST_LINE_BYTES}
use Rattle.cert_text.specs.Certificate.{Certificate}
use Rattle.cert_text.specs.CertReader.{ReadSoFar, nothing_read, cert_line_in}
use Rattle.certificate_laws.specs.FitCertificate.{FitCertificate}
use Rattle.certificate_laws.specs.Keeping.{KeptCertificate}
use Rattle.cert_text.specs.FitCertReader.{fit_line_in}
use Rattle.cert_text.specs.FitCertReader as fit
use Rattle.cert_text.specs.KeptCert.{kept_line_in}
use Rattle.cert_text.specs.KeptCert as kept
use Rattle.cert_text.specs.FitLaws.{fit_line_count}
use Rattle.run_laws.specs.Walk.{lines_of, AreWhole}

-- What is read behind these lines, of which the first has this number, where `step` tells what is read behind one line
-- more; or the number of the first line that may not stand at its place.
abbrev pub lines_behind : {S : Type 0} → (S → List ℕ → Option S) → ℕ → S → List (List ℕ) → Result S ℕ
lines_behind step number said [] = Ok said
lines_behind {S = S} step number said (bytes ∷ lines) = elim (step said bytes) as (λ _. Result S ℕ) [
  | None ↦ Err number
  | Some next ↦ lines_behind step (number + 1) next lines
]

-- the same of the lines of a text from its first, which has the number 1
abbrev pub lines_in : {S : Type 0} → (S → List ℕ → Option S) → S → List ℕ → Result S ℕ
lines_in step start bytes = lines_behind step 1 start (lines_of bytes)

-- what a file's bytes are, by what its lines come to, or the number of the first line that is refused
abbrev pub file_in : {S C : Type 0} → (S → List ℕ → Option S) → S → (S → Result C ℕ) → List ℕ → Result C ℕ
file_in {S = S} {C = C} step start finish bytes =
    elim (lines_in step start bytes) as (λ _. Result C ℕ) [ Err line ↦ Err line | Ok said ↦ finish said ]

-- how far a file was read: what its whole lines said, how many they are, and the bytes of the line that has begun
pub record FilePlace (S : Type 0) : Type 0 where
  pub said : S
  pub lines : ℕ
  pub begun : List ℕ

-- The place was reached by these bytes of a file: its whole lines may stand where they do, and the line that has begun
-- has no LF yet and no more bytes than a line may have.
pub record HaveCome {S : Type 0} (step : S → List ℕ → Option S) (start : S) (read : List ℕ)
    (here : FilePlace S) : Type 0 where
  pub whole : List ℕ
  pub cut : read ≡ whole ++ here.begun
  pub ended : AreWhole whole
  pub accepted : lines_in step start whole ≡ Ok here.said
  pub counted : length (lines_of whole) ≡ here.lines
  pub one_line : All (λ byte. byte ≢ 10) here.begun
  pub short : length here.begun ≤ MOST_LINE_BYTES

-- the lines of a certificate of the grid with this n
abbrev pub said_behind : ℕ → ℕ → ReadSoFar → List (List ℕ) → Result ReadSoFar ℕ
said_behind n number said lines = lines_behind (cert_line_in n) number said lines

abbrev pub said_in : ℕ → List ℕ → Result ReadSoFar ℕ
said_in n bytes = lines_in (cert_line_in n) nothing_read bytes

-- the certificate of what was read; without a camera, and so without a line, the first line is refused
abbrev pub cert_of : ReadSoFar → Result Certificate ℕ
cert_of said = elim said.camera as (λ _. Result Certificate ℕ) [
  | None ↦ Err 1
  | Some seen_from ↦ Ok (record { camera = seen_from; leaves = said.leaves; reasons = said.reasons })
]

-- The certificate that a file's bytes are, of the grid with this n, or the number of the first line that is refused: 1
-- too where there is no line.
unfoldable pub cert_in : ℕ → List ℕ → Result Certificate ℕ
cert_in n bytes = file_in (cert_line_in n) nothing_read cert_of bytes

abbrev pub CertPlace : Type 0
CertPlace = FilePlace ReadSoFar

abbrev pub HasCertCome : ℕ → List ℕ → CertPlace → Type 0
HasCertCome n read here = HaveCome (cert_line_in n) nothing_read read here

-- so much of a certificate was read, and no line of it was refused
abbrev pub CertHasRead : ℕ → List ℕ → Type 0
CertHasRead n read = (here : CertPlace) × HasCertCome n read here

-- the certificate of a fitted mesh of what was read; without the line of the mesh the line behind the last is refused
abbrev pub fit_cert_of : fit.FitReadSoFar → Result FitCertificate ℕ
fit_cert_of said = elim said.tolerance as (λ _. Result FitCertificate ℕ) [
  | None ↦ Err (fit_line_count said + 1)
  | Some own ↦ if said.mesh then Ok (record { tolerance = own; needed = said.needed; beyond = said.beyond })
      else Err (fit_line_count said + 1)
]

-- The certificate of a fitted mesh that a file's bytes are, of the grid with this n, or the number of the first line
-- that is refused: the one behind the last where the line of the mesh is not there, and so 1 where there is no line.
unfoldable pub fit_cert_in : ℕ → List ℕ → Result FitCertificate ℕ
fit_cert_in n bytes = file_in (fit_line_in n) fit.nothing_fit_read fit_cert_of bytes

abbrev pub FitCertPlace : Type 0
FitCertPlace = FilePlace fit.FitReadSoFar

abbrev pub HasFitCertCome : ℕ → List ℕ → FitCertPlace → Type 0
HasFitCertCome n read here = HaveCome (fit_line_in n) fit.nothing_fit_read read here

-- so much of a certificate of a fitted mesh was read, and no line of it was refused
abbrev pub FitCertHasRead : ℕ → List ℕ → Type 0
FitCertHasRead n read = (here : FitCertPlace) × HasFitCertCome n read here

-- the certificate of a fitted mesh that keeps points of what was read: its points, and the certificate behind them
abbrev pub kept_cert_of : kept.KeptReadSoFar → Result KeptCertificate ℕ
kept_cert_of said = elim (fit_cert_of said.rest) as (λ _. Result KeptCertificate ℕ) [
  | Err line ↦ Err (length said.needs + line)
  | Ok cert ↦ Ok (record { needs = said.needs; rest = cert })
]

-- The same of a mesh that keeps points.
unfoldable pub kept_cert_in : ℕ → List ℕ → Result KeptCertificate ℕ
kept_cert_in n bytes = file_in (kept_line_in n) kept.nothing_kept_read kept_cert_of bytes

abbrev pub KeptCertPlace : Type 0
KeptCertPlace = FilePlace kept.KeptReadSoFar

abbrev pub HasKeptCertCome : ℕ → List ℕ → KeptCertPlace → Type 0
HasKeptCertCome n read here = HaveCome (kept_line_in n) kept.nothing_kept_read read here

-- so much of such a certificate was read, and no line of it was refused
abbrev pub KeptCertHasRead : ℕ → List ℕ → Type 0
KeptCertHasRead n read = (here : KeptCertPlace) × HasKeptCertCome n read here

-- what taking bytes does, by its answer: a place was reached, or a line is refused, whatever follows; `bad` is the
-- answer that tells the number of such a line
pub record TakesLines {S C T E : Type 0} (step : S → List ℕ → Option S) (start : S)
    (file : List ℕ → Result C ℕ) (bad : ℕ → E)
    (read : List ℕ) (here : FilePlace S) (answer : Result T E) : Type 0 where
  pub ok : OnOk answer (HaveCome step start read here)
  pub bad_line : (line : ℕ) → answer ≡ Err (bad line) → (more : List ℕ) → file (read ++ more) ≡ Err line

-- what the end of a file comes to, by the answer
pub record EndsLines {C E : Type 0} (file : List ℕ → Result C ℕ) (bad : ℕ → E) (read : List ℕ)
    (answer : Result C E) : Type 0 where
  pub ok : IfOk answer (λ whole. file read ≡ Ok whole)
  pub bad_line : (line : ℕ) → answer ≡ Err (bad line) → file read ≡ Err line
