-- Where forced splits along the ranking stop is the frame; the laws say the rest.
use Rattle.std.proofs.Common.{◌≡◌, List, All, ap, subst, sym, ◌∙◌}
use Rattle.mesh_defs.specs.Triangle.{IsSplittable}
use Rattle.mesh_defs.specs.Priority.{priority_of}
use Rattle.bintree_addr.specs.declared.rank.Rank.{Rank}
use Rattle.view_priority.specs.Camera.{view_from}
use Rattle.plain_mesh.specs.Stop.{IsStop}
use Rattle.plain_mesh.proofs.StopLemmas.{IsFrame-stop, All-splittable}
use Rattle.plain_mesh.proofs.frame.plain_frame.Goals as goal

pub refined-requires-clause-splittable : goal.refined-requires-clause-splittable
refined-requires-clause-splittable c =
    let view = view_from c.args.camera.now c.args.spacing c.args.planes.now in
    let grid : c.n.result ≡ c.args.w.now.n = c.n.ensures.value in
    subst (λ (l : List Rank). All (λ (r : Rank). IsSplittable c.n.result r.tri) l) (sym c.deref.ensures.value)
    (subst (λ n. All (λ (r : Rank). IsSplittable n r.tri) c.in_ok-ranking.ranking.items) (sym grid)
    (All-splittable c.args.w.now.n (priority_of c.args.w.now.n c.args.w.now.heights view) c.in_ok-ranking.ranking.items
    c.in_ok-ranking.ensures))

pub returns-clause-frame : goal.returns-clause-frame
returns-clause-frame c =
    let view = view_from c.args.camera.now c.args.spacing c.args.planes.now in
    let frame = c.in_ok-frame.frame in
    let grid : c.n.result ≡ c.args.w.now.n = c.n.ensures.value in
    let stop : IsStop c.args.w.now.n c.args.budget c.in_ok-ranking.ranking.items frame.split.members
    frame.worst frame.blocked =
    subst (λ (l : List Rank). IsStop c.args.w.now.n c.args.budget l frame.split.members frame.worst frame.blocked)
    c.deref.ensures.value
    (subst (λ n. IsStop n c.args.budget c.deref.result.now frame.split.members frame.worst frame.blocked) grid
    c.in_ok-frame.ensures.stop) in
    IsFrame-stop c.args.w.now.n c.args.budget
    (priority_of c.args.w.now.n c.args.w.now.heights view) c.in_ok-ranking.ranking.items
    frame.split.members frame.worst frame.blocked stop c.in_ok-ranking.ensures
    (c.falling_laws.ensures c.args.w.now.n c.args.w.now.heights view) c.requires.budget

pub returns-clause-best : goal.returns-clause-best
returns-clause-best c =
    c.frame_laws.ensures.best _ _ _ _ _ _ (returns-clause-frame c) (c.falling_laws.ensures _ _ _) c.requires.budget

pub returns-clause-unblocked : goal.returns-clause-unblocked
returns-clause-unblocked c =
    c.frame_laws.ensures.unblocked _ _ _ _ _ _ (returns-clause-frame c) (c.falling_laws.ensures _ _ _) c.requires.budget

pub returns-clause-certificate : goal.returns-clause-certificate
returns-clause-certificate c =
    c.frame_laws.ensures.certificate _ _ _ _ _ _ (returns-clause-frame c)
    (c.falling_laws.ensures _ _ _) c.requires.budget
