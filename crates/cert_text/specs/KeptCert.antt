-- A certificate of a fitted mesh that keeps points: a line for each point that it needs, and then the lines of a
-- certificate. This project's own format.
-- Words: kept_cert_text, kept_cert_lines, KeptReadSoFar, kept_read_so_far, nothing_kept_read, need_taken, rest_taken,
-- kept_line_in, KeptCertReading, kept_reading, kept_with, kept_finished.
use Rattle.std.specs.Prelude.{ℕ, not, ◌&&◌, nat_lt, if◌then◌else◌, List, [], ◌∷◌, ◌++◌, length, map, Option, Some}
use Rattle.std.specs.Prelude.{None, is_some, Result, Ok, Err}
use Rattle.std.specs.List.{flat_map}
use Rattle.mesh_defs.specs.declared.point.Point.{Point}
use Rattle.certificate_laws.specs.declared.limits.TheConstants.{MOST_REASONS}
use Rattle.certificate_laws.specs.FitCertificate.{FitCertificate}
use Rattle.certificate_laws.specs.Keeping.{KeptCertificate}
use Rattle.cert_text.specs.declared.fault.CertFault.{CertFault}
use Rattle.cert_text.specs.FitCertText.{fit_cert_text, fit_cert_lines}
use Rattle.cert_text.specs.FitCertReader.{FitReadSoFar, nothing_fit_read, fit_line_in, FitCertReading, fit_finished}
use Rattle.cert_text.specs.NeedLine.{need_text, ended_need, need_in}

-- The text: each point, and then the certificate that goes on from them.
abbrev pub kept_cert_text : KeptCertificate → List ℕ
kept_cert_text cert = flat_map ended_need cert.needs ++ fit_cert_text cert.rest

-- its lines, without their LFs
abbrev pub kept_cert_lines : KeptCertificate → List (List ℕ)
kept_cert_lines cert = map need_text cert.needs ++ fit_cert_lines cert.rest

-- what the lines so far said: the points, and what those of the certificate said
pub record KeptReadSoFar : Type 0 where
  pub needs : List Point
  pub rest : FitReadSoFar

abbrev pub kept_read_so_far : List Point → FitReadSoFar → KeptReadSoFar
kept_read_so_far points said = record { needs = points; rest = said }

-- before the first line
abbrev pub nothing_kept_read : KeptReadSoFar
nothing_kept_read = kept_read_so_far [] nothing_fit_read

-- Behind the line of a point, where it may stand: before the tolerance, and behind not too many points.
abbrev pub need_taken : KeptReadSoFar → Point → Option KeptReadSoFar
need_taken read p =
    if not (is_some read.rest.tolerance) && nat_lt (length read.needs) MOST_REASONS
    then Some (kept_read_so_far (read.needs ++ p ∷ []) read.rest) else None

-- behind a line of the certificate, where it may stand
abbrev pub rest_taken : List Point → Option FitReadSoFar → Option KeptReadSoFar
rest_taken points None = None
rest_taken points (Some said) = Some (kept_read_so_far points said)

-- Behind the line that these bytes are, if they are one that may stand there; for the grid with this n.
abbrev pub kept_line_in : ℕ → KeptReadSoFar → List ℕ → Option KeptReadSoFar
kept_line_in n read bytes = elim (need_in n bytes) as (λ _. Option KeptReadSoFar) [
  | None ↦ rest_taken read.needs (fit_line_in n read.rest bytes)
  | Some p ↦ need_taken read p
]

-- a reader: the points that it has read, and its reader of the certificate, which has the refusal too
pub record KeptCertReading : Type 0 where
  pub needs : List Point
  pub rest : FitCertReading

-- what it has read
abbrev pub kept_reading : KeptCertReading → KeptReadSoFar
kept_reading r = kept_read_so_far r.needs r.rest.read

-- points and a certificate
abbrev pub kept_with : List Point → Result FitCertificate CertFault → Result KeptCertificate CertFault
kept_with points (Ok cert) = Ok (record { needs = points; rest = cert })
kept_with points (Err fault) = Err fault

-- the certificate of what was read, or the refusal
abbrev pub kept_finished : KeptCertReading → Result KeptCertificate CertFault
kept_finished r = kept_with r.needs (fit_finished r.rest.refusal r.rest.read)
