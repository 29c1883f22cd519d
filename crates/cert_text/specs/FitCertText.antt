-- The text of a certificate of a fitted mesh: a line for the tolerance, for each reason before the mesh, for the mesh,
-- and for each reason behind it, in order, each with an LF (10) at its end. This project's own format.
-- Words: fit_line_text, ended_fit_line, off_text, fit_cert_text, fit_cert_lines.
use Rattle.std.specs.Prelude.{List, ◌∷◌, ◌++◌, map, codes, ℕ}
use Rattle.std.specs.List.{flat_map}
use Rattle.certificate_laws.specs.declared.fit_reason.Witness.{Witness}
use Rattle.certificate_laws.specs.FitCertificate.{FitCertificate}
use Rattle.cert_text.specs.Lines.{ended, field_text}
use Rattle.cert_text.specs.declared.fit_line.FitLine.{FitLine}
use Rattle.cert_text.specs.declared.fit_line.FitLine.TheVariants.{ToleranceLine, OffLine, MeshLine}

-- a line: its word and its numbers, with one blank before each of them
abbrev pub fit_line_text : FitLine → List ℕ
fit_line_text (ToleranceLine own) = codes "tolerance" ++ field_text own
fit_line_text (OffLine r) = codes "off" ++ field_text r.triangle ++ field_text r.x ++ field_text r.y
fit_line_text MeshLine = codes "mesh"

-- a line with its LF
abbrev pub ended_fit_line : FitLine → List ℕ
ended_fit_line line = ended (fit_line_text line)

-- the line of a reason
abbrev pub off_text : Witness → List ℕ
off_text r = ended_fit_line (OffLine r)

-- The text of a certificate: the tolerance, each reason before the mesh, the mesh, and each reason behind it.
abbrev pub fit_cert_text : FitCertificate → List ℕ
fit_cert_text cert =
    ended_fit_line (ToleranceLine cert.tolerance) ++ flat_map off_text cert.needed ++ ended_fit_line MeshLine
    ++ flat_map off_text cert.beyond

-- its lines, without their LFs
abbrev pub fit_cert_lines : FitCertificate → List (List ℕ)
fit_cert_lines cert =
    fit_line_text (ToleranceLine cert.tolerance) ∷ (map (λ r. fit_line_text (OffLine r)) cert.needed
    ++ fit_line_text MeshLine ∷ map (λ r. fit_line_text (OffLine r)) cert.beyond)
