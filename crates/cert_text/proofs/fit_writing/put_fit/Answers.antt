-- The tolerance with the reasons before the mesh, and then the mesh with those behind it.
use Rattle.std.proofs.Common.{◌≡◌, ℕ, List, ◌++◌, append_assoc, refl, sym, ap, ◌∙◌, subst}
use Rattle.std.specs.Prelude.{OnOk, OnErr}
use Rattle.std.specs.List.{flat_map}
use Rattle.std.proofs.lemmas.Result.{err_from_is_err_and, on_ok_weaker, on_err_weaker}
use Rattle.certificate_laws.specs.declared.fit_reason.Witness.{Witness}
use Rattle.certificate_laws.specs.FitCertificate.{FitCertificate}
use Rattle.cert_text.specs.declared.fit_line.FitLine.TheVariants.{ToleranceLine, MeshLine}
use Rattle.cert_text.specs.FitCertText.{ended_fit_line, off_text, fit_cert_text}
use Rattle.cert_text.specs.Page.{Puts, Cuts}
use Rattle.cert_text.proofs.PageLemmas.{puts-then, cuts-then, cuts-longer}
use Rattle.cert_text.proofs.fit_writing.put_fit.Goals as goal

-- the text of the parts of a certificate
abbrev parts : ℕ → List Witness → List Witness → List ℕ
parts own needed beyond = (ended_fit_line (ToleranceLine own) ++ flat_map off_text needed)
    ++ (ended_fit_line MeshLine ++ flat_map off_text beyond)

same_parts : (cert : FitCertificate) (own : ℕ) (needed beyond : List Witness) →
    own ≡ cert.tolerance → needed ≡ cert.needed → beyond ≡ cert.beyond →
    parts own needed beyond ≡ fit_cert_text cert
same_parts cert own needed beyond e f h =
    ap (λ k. parts k needed beyond) e ∙ ap (λ k. parts cert.tolerance k beyond) f
    ∙ ap (λ k. parts cert.tolerance cert.needed k) h
    ∙ sym (append_assoc (ended_fit_line (ToleranceLine cert.tolerance) ++ flat_map off_text cert.needed)
    (ended_fit_line MeshLine) (flat_map off_text cert.beyond))

pub returns-in_err-put_headed-clause-err : goal.returns-in_err-put_headed-clause-err
returns-in_err-put_headed-clause-err g c =
    let p = err_from_is_err_and c.from_residual.result c.from_residual.ensures.1 in
    rw p.1 (cuts-longer _ _ _ _ (ended_fit_line MeshLine ++ flat_map off_text c.args.cert.now.beyond) _
    (sym (same_parts c.args.cert.now _ _ _ c.tolerance.ensures c.needed.ensures.value refl))
    c.in_err-put_headed.ensures.err)

pub returns-clause-ok : goal.returns-clause-ok
returns-clause-ok g c =
    subst (λ l. OnOk c.put_headed-2.result (Puts (g.S.Sink.contents c.args.out.now)
    (g.S.Sink.contents c.put_headed-2.new.out) c.args.page.now.items c.put_headed-2.new.page.items l))
    (same_parts c.args.cert.now _ _ _ c.tolerance.ensures c.needed.ensures.value c.beyond.ensures.value)
    (on_ok_weaker c.put_headed-2.result (puts-then _ _ _ _ _ _ _ _ c.in_ok-put_headed.ensures.ok)
    c.put_headed-2.ensures.ok)

pub returns-clause-err : goal.returns-clause-err
returns-clause-err g c =
    subst (λ l. OnErr c.put_headed-2.result (Cuts (g.S.Sink.contents c.args.out.now)
    (g.S.Sink.contents c.put_headed-2.new.out) c.args.page.now.items l))
    (same_parts c.args.cert.now _ _ _ c.tolerance.ensures c.needed.ensures.value c.beyond.ensures.value)
    (on_err_weaker c.put_headed-2.result (cuts-then _ _ _ _ _ _ _ c.in_ok-put_headed.ensures.ok)
    c.put_headed-2.ensures.err)
