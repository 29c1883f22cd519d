-- Each line that is read says one thing more.
use Rattle.std.proofs.Common.{◌≡◌, ℕ, ◌+◌, Bool, true, false, List, [], ◌∷◌, ◌++◌, Option, Some, None, arith}
use Rattle.std.proofs.Common.{length-append}
use Rattle.std.proofs.lemmas.Option.{none-some}
use Rattle.certificate_laws.specs.declared.fit_reason.Witness.{Witness}
use Rattle.cert_text.specs.FitLine.{read_fit_line}
use Rattle.cert_text.specs.FitCertReader.{FitReadSoFar, fit_read_so_far, fit_line_taken, fit_line_in}
use Rattle.cert_text.specs.declared.fit_line.FitLine.{FitLine}
use Rattle.cert_text.specs.declared.fit_line.FitLine.TheVariants.{ToleranceLine, OffLine, MeshLine}
use Rattle.cert_text.specs.FitLaws.{fit_line_count}
use Rattle.cert_text.proofs.LineLemmas.{counted-some, counted-if, counted-line}

tolerance-count : (own : ℕ) (tolerance : Option ℕ) (mesh : Bool) (needed beyond : List Witness) (next : FitReadSoFar)
    → fit_line_taken (fit_read_so_far tolerance mesh needed beyond) (ToleranceLine own) ≡ Some next
    → fit_line_count next ≡ fit_line_count (fit_read_so_far tolerance mesh needed beyond) + 1
tolerance-count own None mesh needed beyond next e =
    counted-some fit_line_count (fit_read_so_far (Some own) mesh needed beyond) next _ (omega arith) e
tolerance-count own (Some there) mesh needed beyond next e = absurd (none-some next e)

mesh-count : (tolerance : Option ℕ) (mesh : Bool) (needed beyond : List Witness) (next : FitReadSoFar)
    → fit_line_taken (fit_read_so_far tolerance mesh needed beyond) MeshLine ≡ Some next
    → fit_line_count next ≡ fit_line_count (fit_read_so_far tolerance mesh needed beyond) + 1
mesh-count None mesh needed beyond next e = absurd (none-some next e)
mesh-count (Some own) true needed beyond next e = absurd (none-some next e)
mesh-count (Some own) false needed beyond next e =
    counted-some fit_line_count (fit_read_so_far (Some own) true needed beyond) next _ (omega arith) e

off-count : (r : Witness) (tolerance : Option ℕ) (mesh : Bool) (needed beyond : List Witness) (next : FitReadSoFar)
    → fit_line_taken (fit_read_so_far tolerance mesh needed beyond) (OffLine r) ≡ Some next
    → fit_line_count next ≡ fit_line_count (fit_read_so_far tolerance mesh needed beyond) + 1
off-count r None mesh needed beyond next e = absurd (none-some next e)
off-count r (Some own) false needed beyond next e =
    counted-if fit_line_count _ (fit_read_so_far (Some own) false (needed ++ r ∷ []) beyond) next _
    (omega (arith, length-append needed (r ∷ []))) e
off-count r (Some own) true needed beyond next e =
    counted-if fit_line_count _ (fit_read_so_far (Some own) true needed (beyond ++ r ∷ [])) next _
    (omega (arith, length-append beyond (r ∷ []))) e

taken-count : (said next : FitReadSoFar) (line : FitLine) → fit_line_taken said line ≡ Some next →
    fit_line_count next ≡ fit_line_count said + 1
taken-count said next (ToleranceLine own) is =
    tolerance-count own said.tolerance said.mesh said.needed said.beyond next is
taken-count said next (OffLine r) is = off-count r said.tolerance said.mesh said.needed said.beyond next is
taken-count said next MeshLine is = mesh-count said.tolerance said.mesh said.needed said.beyond next is

-- behind a line that is read, one line more has been said
pub line-count : (n : ℕ) (said next : FitReadSoFar) (bytes : List ℕ) → fit_line_in n said bytes ≡ Some next
    → fit_line_count next ≡ fit_line_count said + 1
line-count n said next bytes is =
    counted-line fit_line_count (fit_line_taken said) next _ (taken-count said next) (read_fit_line n bytes) is
