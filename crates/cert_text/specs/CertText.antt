-- The text of a certificate: a line for the camera, for each leaf and for each reason, in order, each with an LF (10)
-- at its end. This project's own format.
-- Words: kind_text, number_text, address_text, cert_line_text, ended_line, leaf_text, reason_text, cert_text,
-- cert_lines.
use Rattle.std.specs.Prelude.{ℕ, List, ◌∷◌, ◌++◌, map, codes, decimal, ℤ}
use Rattle.std.specs.List.{flat_map}
use Rattle.std.specs.Fmt.{signed_decimal}
use Rattle.certificate_laws.specs.declared.reason.Reason.{Reason}
use Rattle.certificate_laws.specs.declared.reason.Kind.{Kind}
use Rattle.certificate_laws.specs.declared.reason.Kind.TheVariants.{Want, Parent, Mate}
use Rattle.cert_text.specs.Lines.{ended}
use Rattle.cert_text.specs.declared.cert_line.CertLine.{CertLine}
use Rattle.cert_text.specs.declared.cert_line.CertLine.TheVariants.{CameraLine, LeafLine, ReasonLine}
use Rattle.cert_text.specs.Certificate.{Certificate}

-- the first field of a reason's line
abbrev pub kind_text : Kind → List ℕ
kind_text Want = codes "want"
kind_text Parent = codes "parent"
kind_text Mate = codes "mate"

-- a blank (32) and a number
abbrev pub number_text : ℤ → List ℕ
number_text v = 32 ∷ signed_decimal v

-- a word, a blank and an address
abbrev pub address_text : List ℕ → ℕ → List ℕ
address_text first a = first ++ 32 ∷ decimal a

-- a line: its word and its numbers, with one blank before each of them
abbrev pub cert_line_text : CertLine → List ℕ
cert_line_text (CameraLine seen_from) =
    codes "camera" ++ number_text seen_from.x ++ number_text seen_from.y ++ number_text seen_from.z
cert_line_text (LeafLine leaf) = address_text (codes "leaf") leaf
cert_line_text (ReasonLine reason) = address_text (kind_text reason.kind) reason.triangle

-- a line with its LF
abbrev pub ended_line : CertLine → List ℕ
ended_line line = ended (cert_line_text line)

-- the line of a leaf, and that of a reason
abbrev pub leaf_text : ℕ → List ℕ
leaf_text leaf = ended_line (LeafLine leaf)

abbrev pub reason_text : Reason → List ℕ
reason_text reason = ended_line (ReasonLine reason)

-- The text of a certificate: the camera, each leaf and each reason.
abbrev pub cert_text : Certificate → List ℕ
cert_text cert =
    ended_line (CameraLine cert.camera) ++ flat_map leaf_text cert.leaves ++ flat_map reason_text cert.reasons

-- its lines, without their LFs
abbrev pub cert_lines : Certificate → List (List ℕ)
cert_lines cert =
    cert_line_text (CameraLine cert.camera) ∷ (map (λ a. cert_line_text (LeafLine a)) cert.leaves
    ++ map (λ r. cert_line_text (ReasonLine r)) cert.reasons)
