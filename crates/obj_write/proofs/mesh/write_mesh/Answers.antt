-- The mesh is that of the view.
use Rattle.std.proofs.Common.{◌≡◌, true, OnErr, subst}
use Rattle.obj_write.specs.declared.mesh.MeshView.{MeshView}
use Rattle.obj_write.specs.Written.{GrowsByPart}
use Rattle.obj_write.specs.MeshView.{view_text}
use Rattle.obj_write.proofs.mesh.write_mesh.Goals as goal

pub returns-clause-begun : goal.returns-clause-begun
returns-clause-begun g c =
    subst (λ (v : MeshView). OnErr c.write_sparse.result (g.M.MeshSink.under_way c.write_sparse.new.out ≡ true →
    GrowsByPart (g.M.MeshSink.meshes c.args.out.now) (g.M.MeshSink.meshes c.write_sparse.new.out) c.args.prefix.now
    c.args.number (view_text v))) c.new.ensures c.write_sparse.ensures.begun
