-- The points, the certificate that goes on from them, and then what is left on the page.
use Rattle.std.proofs.Common.{List, ◌++◌, sym, ap, ap₂, subst}
use Rattle.std.specs.List.{flat_map}
use Rattle.std.proofs.lemmas.Result.{err_from_is_err_and}
use Rattle.mesh_defs.specs.declared.point.Point.{Point}
use Rattle.roam_edge.specs.Sink.{Appends}
use Rattle.certificate_laws.specs.FitCertificate.{FitCertificate}
use Rattle.cert_text.specs.FitCertText.{fit_cert_text}
use Rattle.cert_text.specs.NeedLine.{ended_need}
use Rattle.cert_text.specs.Page.{Cuts}
use Rattle.cert_text.proofs.PageLemmas.{puts-then, cuts-then, cuts-longer, cuts-appends, puts-appends}
use Rattle.cert_text.proofs.fit_writing.write_kept_cert.Goals as goal

pub returns-in_err-put_lines-clause-bytes : goal.returns-in_err-put_lines-clause-bytes
returns-in_err-put_lines-clause-bytes g c =
    let p = err_from_is_err_and c.from_residual.result c.from_residual.ensures.1 in
    rw p.1 (cuts-appends _ _ _ _ _ c.new-page.ensures
    (cuts-longer _ _ _ (flat_map ended_need c.needs.result.now) (fit_cert_text c.args.cert.now.rest) _
    (sym (ap (λ (l : List Point). flat_map ended_need l ++ fit_cert_text c.args.cert.now.rest) c.needs.ensures.value))
    c.in_err-put_lines.ensures.err))

pub returns-in_err-put_fit-clause-bytes : goal.returns-in_err-put_fit-clause-bytes
returns-in_err-put_fit-clause-bytes g c =
    let p = err_from_is_err_and c.from_residual-in_err-put_fit.result c.from_residual-in_err-put_fit.ensures.1 in
    rw p.1 (cuts-appends _ _ _ _ _ c.new-page.ensures
    (subst (Cuts (g.S.Sink.contents c.args.out.now) (g.S.Sink.contents c.put_fit.new.out) c.new-page.result.items)
    (ap₂ (λ (l : List Point) (r : FitCertificate). flat_map ended_need l ++ fit_cert_text r) c.needs.ensures.value
    c.rest.ensures)
    (cuts-then _ _ _ _ _ _ _ c.in_ok-put_lines.ensures.ok c.in_err-put_fit.ensures.err)))

pub returns-clause-bytes : goal.returns-clause-bytes
returns-clause-bytes g c =
    subst (λ l. Appends (g.S.Sink.contents c.args.out.now) (g.S.Sink.contents c.put_rest.new.out) l c.put_rest.result)
    (ap₂ (λ (l : List Point) (r : FitCertificate). flat_map ended_need l ++ fit_cert_text r) c.needs.ensures.value
    c.rest.ensures)
    (puts-appends _ _ _ _ _ _ _ c.new-page.ensures
    (puts-then _ _ _ _ _ _ _ _ c.in_ok-put_lines.ensures.ok c.in_ok-put_fit.ensures.ok) c.put_rest.ensures.bytes)
