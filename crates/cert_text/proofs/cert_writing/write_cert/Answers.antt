-- The camera with the leaves, the reasons, and then what is left on the page.
use Rattle.std.proofs.Common.{◌≡◌, ℕ, List, refl, sym, ap, ◌∙◌, subst}
use Rattle.std.specs.List.{flat_map}
use Rattle.std.proofs.lemmas.Result.{err_from_is_err_and}
use Rattle.mesh_defs.specs.BoundingBox.{CameraAt}
use Rattle.certificate_laws.specs.declared.reason.Reason.{Reason}
use Rattle.roam_edge.specs.Sink.{Appends}
use Rattle.cert_text.specs.Certificate.{Certificate}
use Rattle.cert_text.specs.CertText.{reason_text, cert_text}
use Rattle.cert_text.specs.Page.{Cuts}
use Rattle.cert_text.proofs.PageLemmas.{puts-then, cuts-then, cuts-longer, cuts-appends, puts-appends}
use Rattle.cert_text.proofs.cert_writing.write_cert.Goals as goal

-- the text of the parts of a certificate
abbrev parts : CameraAt → List ℕ → List Reason → List ℕ
parts seen_from leaves reasons = cert_text (record { camera = seen_from; leaves = leaves; reasons = reasons })

same_parts : (cert : Certificate) (seen_from : CameraAt) (leaves : List ℕ) (reasons : List Reason) →
    seen_from ≡ cert.camera → leaves ≡ cert.leaves → reasons ≡ cert.reasons →
    parts seen_from leaves reasons ≡ cert_text cert
same_parts cert seen_from leaves reasons e f h =
    ap (λ k. parts k leaves reasons) e ∙ ap (λ k. parts cert.camera k reasons) f
    ∙ ap (λ k. parts cert.camera cert.leaves k) h

pub returns-in_err-put_headed-clause-bytes : goal.returns-in_err-put_headed-clause-bytes
returns-in_err-put_headed-clause-bytes g c =
    let p = err_from_is_err_and c.from_residual.result c.from_residual.ensures.1 in
    rw p.1 (cuts-appends _ _ _ _ _ c.new-page.ensures
    (cuts-longer _ _ _ _ (flat_map reason_text c.args.cert.now.reasons) _
    (sym (same_parts c.args.cert.now _ _ _ c.camera.ensures c.leaves.ensures.value refl))
    c.in_err-put_headed.ensures.err))

pub returns-in_err-put_lines-clause-bytes : goal.returns-in_err-put_lines-clause-bytes
returns-in_err-put_lines-clause-bytes g c =
    let p = err_from_is_err_and c.from_residual-in_err-put_lines.result c.from_residual-in_err-put_lines.ensures.1 in
    rw p.1 (cuts-appends _ _ _ _ _ c.new-page.ensures
    (subst (Cuts (g.S.Sink.contents c.args.out.now) (g.S.Sink.contents c.put_lines.new.out) c.new-page.result.items)
    (same_parts c.args.cert.now _ _ _ c.camera.ensures c.leaves.ensures.value c.reasons.ensures.value)
    (cuts-then _ _ _ _ _ _ _ c.in_ok-put_headed.ensures.ok c.in_err-put_lines.ensures.err)))

pub returns-clause-bytes : goal.returns-clause-bytes
returns-clause-bytes g c =
    subst (λ l. Appends (g.S.Sink.contents c.args.out.now) (g.S.Sink.contents c.put_rest.new.out) l c.put_rest.result)
    (same_parts c.args.cert.now _ _ _ c.camera.ensures c.leaves.ensures.value c.reasons.ensures.value)
    (puts-appends _ _ _ _ _ _ _ c.new-page.ensures
    (puts-then _ _ _ _ _ _ _ _ c.in_ok-put_headed.ensures.ok c.in_ok-put_lines.ensures.ok) c.put_rest.ensures.bytes)
