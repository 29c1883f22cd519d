-- What a reader of a certificate has read, line after line. This project's own format.
-- Words: ReadSoFar, read_so_far, nothing_read, AreFew, line_taken, cert_line_in, CertReading, finished.
use Rattle.std.specs.Prelude.{ℕ, ◌≤◌, All, ◌&&◌, nat_lt, if◌then◌else◌, List, [], ◌∷◌, ◌++◌, length, ◌==◌, Option, Some}
use Rattle.std.specs.Prelude.{None, is_some, Result, Ok, Err}
use Rattle.mesh_defs.specs.Triangle.{IsAddress, IsSplittable}
use Rattle.mesh_defs.specs.BoundingBox.{CameraAt}
use Rattle.mesh_defs.specs.declared.level.TheConstants.{GREATEST_LEVEL}
use Rattle.certificate_laws.specs.declared.reason.Reason.{Reason}
use Rattle.cert_text.specs.declared.limits.TheConstants.{MOST_LEAVES, MOST_REASONS}
use Rattle.cert_text.specs.declared.cert_line.CertLine.{CertLine}
use Rattle.cert_text.specs.declared.cert_line.CertLine.TheVariants.{CameraLine, LeafLine, ReasonLine}
use Rattle.cert_text.specs.declared.fault.CertFault.{CertFault}
use Rattle.cert_text.specs.declared.fault.CertFault.TheVariants.{BadLine}
use Rattle.cert_text.specs.Certificate.{Certificate}
use Rattle.cert_text.specs.CertLine.{read_cert_line}

-- what the lines so far said: the camera, once its line was read, the leaves and the reasons
pub record ReadSoFar : Type 0 where
  pub camera : Option CameraAt
  pub leaves : List ℕ
  pub reasons : List Reason

abbrev pub read_so_far : Option CameraAt → List ℕ → List Reason → ReadSoFar
read_so_far seen_from mesh why = record { camera = seen_from; leaves = mesh; reasons = why }

-- before the first line
abbrev pub nothing_read : ReadSoFar
nothing_read = read_so_far None [] []

-- leaves and reasons of triangles of the grid with this n, no more than a certificate may have
pub record AreFew (n : ℕ) (leaves : List ℕ) (reasons : List Reason) : Type 0 where
  pub in_grid : (1 ≤ n) × (n ≤ GREATEST_LEVEL)
  pub addresses : All (IsAddress n) leaves
  pub splittable : All (λ (r : Reason). IsSplittable n r.triangle) reasons
  pub few_leaves : length leaves ≤ MOST_LEAVES
  pub few_reasons : length reasons ≤ MOST_REASONS

-- Behind this line, where it may stand: the camera first and once, the leaves before the reasons, and neither too
-- many.
abbrev pub line_taken : ReadSoFar → CertLine → Option ReadSoFar
line_taken read (CameraLine seen_from) =
    if is_some read.camera then None else Some (record read { camera = Some seen_from })
line_taken read (LeafLine leaf) =
    if is_some read.camera && ((length read.reasons == 0) && nat_lt (length read.leaves) MOST_LEAVES)
    then Some (record read { leaves = read.leaves ++ leaf ∷ [] }) else None
line_taken read (ReasonLine reason) =
    if is_some read.camera && nat_lt (length read.reasons) MOST_REASONS
    then Some (record read { reasons = read.reasons ++ reason ∷ [] }) else None

-- Behind the line that these bytes are, if they are one that may stand there; for the grid with this n.
abbrev pub cert_line_in : ℕ → ReadSoFar → List ℕ → Option ReadSoFar
cert_line_in n read bytes =
    elim (read_cert_line n bytes) as (λ _. Option ReadSoFar) [ None ↦ None | Some line ↦ line_taken read line ]

-- a reader: the n of its grid, what it has read, and its refusal, once it has refused
pub record CertReading : Type 0 where
  pub n : ℕ
  pub read : ReadSoFar
  pub refusal : Option CertFault

-- the certificate of what was read, or the refusal; without a line there is none
abbrev pub finished : Option CertFault → ReadSoFar → Result Certificate CertFault
finished (Some fault) read = Err fault
finished None read = elim read.camera as (λ _. Result Certificate CertFault) [
  | None ↦ Err BadLine
  | Some seen_from ↦ Ok (record { camera = seen_from; leaves = read.leaves; reasons = read.reasons })
]
