-- No triangle is named at first; the reasons are those of an optimal mesh.
use Rattle.std.proofs.Common.{◌≡◌, ℕ, ◌+◌, ◌≤◌, ◌⊎◌, Bool, false, List, [], length, sym, ◌∙◌, ap, subst}
use Rattle.mesh_defs.specs.HeightField.{HeightField}
use Rattle.mesh_defs.specs.Priority.{priority_of}
use Rattle.mesh_defs.specs.View.{ViewPlane}
use Rattle.view_priority.specs.Camera.{view_from}
use Rattle.mesh_laws.specs.Sweep.{is_flagged}
use Rattle.mesh_laws.proofs.FlagLemmas.{flagged-unset}
use Rattle.certificate_laws.specs.Certificate.{IsSound, AreReasons, AreAllReasons}
use Rattle.cert_text.specs.Certificate.{Certificate}
use Rattle.roam_certify.proofs.CertLemmas.{sound-made}
use Rattle.roam_certify.proofs.cert.certify_mesh.Goals as goal

pub make_reasons-requires-clause-empty : goal.make_reasons-requires-clause-empty
make_reasons-requires-clause-empty c a =
    subst (λ (l : List Bool). is_flagged l a ≡ false)
    (sym (c.deref_mut.ensures.value ∙ c.in_ok-named.ensures.items_if_clones_equal (λ y h. h)))
    (flagged-unset c.end.result a)

pub returns-clause-sound : goal.returns-clause-sound
returns-clause-sound c =
    let n = c.args.w.now.n in
    let p : List ViewPlane → ℕ → ℕ =
    λ planes. priority_of n c.args.w.now.heights (view_from c.args.camera.now c.args.spacing planes) in
    let reasons = c.in_ok-reasons.reasons.items in
    let grid : c.n-n.result ≡ n = c.n-n.ensures.value ∙ ap (λ (g : HeightField). g.n) c.grid.ensures.value in
    subst (λ (cert : Certificate). IsSound n c.args.budget (p []) cert.leaves cert.reasons) (sym c.new.ensures)
    (sound-made n c.n-n.result c.args.budget c.args.worst (p []) c.args.leaves.items reasons
    (c.falling_laws.ensures _ _ _)
    c.requires.optimal c.requires.worst grid
    (subst (λ planes. AreReasons c.n-n.result (p planes) c.args.worst [] reasons) c.none-planes.ensures
    c.in_ok-reasons.ensures.reasoned)
    (subst (λ planes. (c.args.budget ≤ length reasons + 1)
    ⊎ AreAllReasons c.n-n.result (p planes) c.args.worst reasons) c.none-planes.ensures
    c.in_ok-reasons.ensures.enough))
