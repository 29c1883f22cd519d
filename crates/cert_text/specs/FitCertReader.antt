-- What a reader of a certificate of a fitted mesh has read, line after line. This project's own format.
-- Words: FitReadSoFar, fit_read_so_far, nothing_fit_read, AreFewFitReasons, fit_line_taken, fit_line_in,
-- FitCertReading, fit_finished.
use Rattle.std.specs.Prelude.{ℕ, ◌≤◌, Bool, true, false, not, ◌&&◌, nat_lt, if◌then◌else◌, List, [], ◌∷◌, ◌++◌, length}
use Rattle.std.specs.Prelude.{Option, Some, None, is_some, Result, Ok, Err}
use Rattle.mesh_defs.specs.declared.level.TheConstants.{GREATEST_LEVEL}
use Rattle.certificate_laws.specs.declared.fit_reason.Witness.{Witness}
use Rattle.certificate_laws.specs.declared.limits.TheConstants.{MOST_REASONS}
use Rattle.certificate_laws.specs.FitCertificate.{FitCertificate}
use Rattle.cert_text.specs.declared.fit_line.FitLine.{FitLine}
use Rattle.cert_text.specs.declared.fit_line.FitLine.TheVariants.{ToleranceLine, OffLine, MeshLine}
use Rattle.cert_text.specs.declared.fault.CertFault.{CertFault}
use Rattle.cert_text.specs.declared.fault.CertFault.TheVariants.{BadLine}
use Rattle.cert_text.specs.FitLine.{read_fit_line}

-- what the lines so far said: the tolerance, once its line was read, whether the line of the mesh was, and the reasons
-- before and behind it
pub record FitReadSoFar : Type 0 where
  pub tolerance : Option ℕ
  pub mesh : Bool
  pub needed : List Witness
  pub beyond : List Witness

abbrev pub fit_read_so_far : Option ℕ → Bool → List Witness → List Witness → FitReadSoFar
fit_read_so_far own made before behind = record { tolerance = own; mesh = made; needed = before; beyond = behind }

-- before the first line
abbrev pub nothing_fit_read : FitReadSoFar
nothing_fit_read = fit_read_so_far None false [] []

-- no more reasons than a certificate may have
pub record AreFewFitReasons (n : ℕ) (needed beyond : List Witness) : Type 0 where
  pub in_grid : (1 ≤ n) × (n ≤ GREATEST_LEVEL)
  pub few_needed : length needed ≤ MOST_REASONS
  pub few_beyond : length beyond ≤ MOST_REASONS

-- Behind this line, where it may stand: the tolerance first and once, the mesh once, and not too many reasons before or
-- behind it.
abbrev pub fit_line_taken : FitReadSoFar → FitLine → Option FitReadSoFar
fit_line_taken read (ToleranceLine own) =
    if is_some read.tolerance then None else Some (record read { tolerance = Some own })
fit_line_taken read (OffLine r) =
    if is_some read.tolerance && (not read.mesh && nat_lt (length read.needed) MOST_REASONS)
    then Some (record read { needed = read.needed ++ r ∷ [] })
    else (if is_some read.tolerance && (read.mesh && nat_lt (length read.beyond) MOST_REASONS)
    then Some (record read { beyond = read.beyond ++ r ∷ [] }) else None)
fit_line_taken read MeshLine =
    if is_some read.tolerance && not read.mesh then Some (record read { mesh = true }) else None

-- Behind the line that these bytes are, if they are one that may stand there; for the grid with this n.
abbrev pub fit_line_in : ℕ → FitReadSoFar → List ℕ → Option FitReadSoFar
fit_line_in n read bytes =
    elim (read_fit_line n bytes) as (λ _. Option FitReadSoFar) [ None ↦ None | Some line ↦ fit_line_taken read line ]

-- a reader: the n of its grid, what it has read, and its refusal, once it has refused
pub record FitCertReading : Type 0 where
  pub n : ℕ
  pub read : FitReadSoFar
  pub refusal : Option CertFault

-- the certificate of what was read, or the refusal; without the line of the mesh there is none
abbrev pub fit_finished : Option CertFault → FitReadSoFar → Result FitCertificate CertFault
fit_finished (Some fault) read = Err fault
fit_finished None read = elim read.tolerance as (λ _. Result FitCertificate CertFault) [
  | None ↦ Err BadLine
  | Some own ↦ if read.mesh then Ok (record { tolerance = own; needed = read.needed; beyond = read.beyond })
      else Err BadLine
]
