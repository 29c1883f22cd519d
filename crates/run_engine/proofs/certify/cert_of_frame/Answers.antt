-- The leaves of the view are those of the engine's mesh.
use Rattle.std.proofs.Common.{◌≡◌, ℕ, List, [], IfOk, sym, ◌∙◌, subst}
use Rattle.mesh_defs.specs.HeightField.{HeightField}
use Rattle.mesh_defs.specs.Priority.{priority_of, worst_of}
use Rattle.mesh_defs.specs.BestMesh.{IsBestMesh}
use Rattle.mesh_defs.specs.State.{priority_in}
use Rattle.view_priority.specs.Camera.{view_from}
use Rattle.certificate_laws.specs.Certificate.{IsOptimal, IsSound}
use Rattle.certificate_laws.proofs.MakeLemmas.{optimal-best}
use Rattle.run_laws.specs.Certify.{makes_at}
use Rattle.run_words.specs.CertifyView.{making_seen}
use Rattle.run_engine.proofs.CertifyLemmas.{made-of}
use Rattle.run_engine.proofs.certify.cert_of_frame.Goals as goal

pub certify_mesh-requires-clause-optimal : goal.certify_mesh-requires-clause-optimal
certify_mesh-requires-clause-optimal c =
    let words = c.args.words.now in
    let grid : HeightField = c.args.engine.now.state.grid in
    let listed = c.in_ok-leaves.ensures.items_if_clones_equal (λ x y h. h) ∙ c.view-view.ensures.leaves in
    let best =
    subst (λ (l : List ℕ). IsBestMesh grid.n words.budget (priority_in (makes_at (making_seen words) grid)) l)
    (sym listed) c.requires.best in
    subst (λ (w : HeightField). IsOptimal w.n words.budget
    (priority_of w.n w.heights (view_from words.camera words.spacing [])) c.in_ok-leaves.leaves.items)
    (sym c.view-view.ensures.wedges) (optimal-best _ _ _ _ best)

pub certify_mesh-requires-clause-worst : goal.certify_mesh-requires-clause-worst
certify_mesh-requires-clause-worst c =
    let words = c.args.words.now in
    let grid : HeightField = c.args.engine.now.state.grid in
    let listed = c.in_ok-leaves.ensures.items_if_clones_equal (λ x y h. h) ∙ c.view-view.ensures.leaves in
    let worst = subst (λ (l : List ℕ). c.args.worst ≡ worst_of (priority_in (makes_at (making_seen words) grid)) l)
    (sym listed) c.requires.worst in
    subst (λ (w : HeightField). c.args.worst
    ≡ worst_of (priority_of w.n w.heights (view_from words.camera words.spacing [])) c.in_ok-leaves.leaves.items)
    (sym c.view-view.ensures.wedges) worst

pub returns : goal.returns
returns c =
    let words = c.args.words.now in
    let grid : HeightField = c.args.engine.now.state.grid in
    let listed = c.in_ok-leaves.ensures.items_if_clones_equal (λ x y h. h) ∙ c.view-view.ensures.leaves in
    made-of (making_seen words) grid c.in_ok-leaves.leaves.items c.certify_mesh.result
    (subst (λ (l : List ℕ). IsBestMesh grid.n words.budget (priority_in (makes_at (making_seen words) grid)) l)
    (sym listed) c.requires.best)
    c.certify_mesh.ensures.camera c.certify_mesh.ensures.leaves
    (subst (λ (w : HeightField). IfOk c.certify_mesh.result (λ cert. IsSound w.n words.budget
    (priority_of w.n w.heights (view_from words.camera words.spacing [])) cert.leaves cert.reasons))
    c.view-view.ensures.wedges c.certify_mesh.ensures.sound)
    c.certify_mesh.ensures.few
