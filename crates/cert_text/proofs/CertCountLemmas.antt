-- Each line that is read says one thing more.
use Rattle.std.proofs.Common.{◌≡◌, ℕ, ◌+◌, List, [], ◌∷◌, ◌++◌, Option, Some, None, arith, length-append}
use Rattle.std.proofs.lemmas.Option.{none-some}
use Rattle.mesh_defs.specs.BoundingBox.{CameraAt}
use Rattle.certificate_laws.specs.declared.reason.Reason.{Reason}
use Rattle.cert_text.specs.CertLine.{read_cert_line}
use Rattle.cert_text.specs.CertReader.{ReadSoFar, read_so_far, line_taken, cert_line_in}
use Rattle.cert_text.specs.declared.cert_line.CertLine.{CertLine}
use Rattle.cert_text.specs.declared.cert_line.CertLine.TheVariants.{CameraLine, LeafLine, ReasonLine}
use Rattle.cert_text.specs.Laws.{line_count}
use Rattle.cert_text.proofs.LineLemmas.{counted-some, counted-if, counted-line}

camera-count : (place : CameraAt) (camera : Option CameraAt) (leaves : List ℕ) (reasons : List Reason)
    (next : ReadSoFar) → line_taken (read_so_far camera leaves reasons) (CameraLine place) ≡ Some next →
    line_count next ≡ line_count (read_so_far camera leaves reasons) + 1
camera-count place None leaves reasons next e =
    counted-some line_count (read_so_far (Some place) leaves reasons) next _ (omega arith) e
camera-count place (Some there) leaves reasons next e = absurd (none-some next e)

taken-count : (said next : ReadSoFar) (line : CertLine) → line_taken said line ≡ Some next →
    line_count next ≡ line_count said + 1
taken-count said next (CameraLine place) is = camera-count place said.camera said.leaves said.reasons next is
taken-count said next (LeafLine leaf) is =
    counted-if line_count _ (record said { leaves = said.leaves ++ leaf ∷ [] }) next _
    (omega (arith, length-append said.leaves (leaf ∷ []))) is
taken-count said next (ReasonLine reason) is =
    counted-if line_count _ (record said { reasons = said.reasons ++ reason ∷ [] }) next _
    (omega (arith, length-append said.reasons (reason ∷ []))) is

-- behind a line that is read, one line more has been said
pub line-count : (n : ℕ) (said next : ReadSoFar) (bytes : List ℕ) → cert_line_in n said bytes ≡ Some next →
    line_count next ≡ line_count said + 1
line-count n said next bytes is =
    counted-line line_count (line_taken said) next _ (taken-count said next) (read_cert_line n bytes) is
