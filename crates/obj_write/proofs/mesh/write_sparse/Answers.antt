use Rattle.std.proofs.Common.{◌++◌, subst}
use Rattle.std.proofs.lemmas.Result.{err_from_is_err_and, on_ok_weaker, on_err_weaker}
use Rattle.obj_write.specs.Page.{Passed, Broken}
use Rattle.obj_write.specs.MeshView.{view_text}
use Rattle.obj_write.proofs.PageLemmas.{part-cut, begun-cut, part-rest, begun-rest, whole-mesh, part-finish}
use Rattle.obj_write.proofs.PageLemmas.{begun-finish}
use Rattle.obj_write.proofs.mesh.write_sparse.Goals as goal

pub returns-in_err-write_lines-clause-err : goal.returns-in_err-write_lines-clause-err
returns-in_err-write_lines-clause-err g c =
    let p =
    err_from_is_err_and c.from_residual-in_err-write_lines.result c.from_residual-in_err-write_lines.ensures.1 in
    rw p.1 (part-cut _ (g.M.MeshSink.meshes c.begin.new.self) _ _ _ _ c.in_ok-begin.ensures.mesh.ok
    (subst (λ page. Broken (g.M.MeshSink.meshes c.begin.new.self) (g.M.MeshSink.meshes c.write_lines.new.out)
    (page ++ view_text c.args.view.now)) c.new-page.ensures c.in_err-write_lines.ensures.err))

pub returns-in_err-write_rest-clause-err : goal.returns-in_err-write_rest-clause-err
returns-in_err-write_rest-clause-err g c =
    let p = err_from_is_err_and c.from_residual-in_err-write_rest.result c.from_residual-in_err-write_rest.ensures.1 in
    let lines = subst (λ page. Passed (g.M.MeshSink.meshes c.begin.new.self) (g.M.MeshSink.meshes c.write_lines.new.out)
    page c.write_lines.new.page (view_text c.args.view.now)) c.new-page.ensures c.in_ok-write_lines.ensures.ok in
    rw p.1 (part-rest _ (g.M.MeshSink.meshes c.begin.new.self) _ _ _ _ c.in_ok-begin.ensures.mesh.ok
    (g.M.MeshSink.meshes c.write_lines.new.out) c.write_lines.new.page lines c.in_err-write_rest.ensures.mesh.failed)

pub returns-clause-ok : goal.returns-clause-ok
returns-clause-ok g c =
    let lines = subst (λ page. Passed (g.M.MeshSink.meshes c.begin.new.self) (g.M.MeshSink.meshes c.write_lines.new.out)
    page c.write_lines.new.page (view_text c.args.view.now)) c.new-page.ensures c.in_ok-write_lines.ensures.ok in
    on_ok_weaker c.finish.result
    (whole-mesh _ (g.M.MeshSink.meshes c.begin.new.self)
    (g.M.MeshSink.meshes c.write_rest.new.out) _ _ _ c.in_ok-begin.ensures.mesh.ok
    (g.M.MeshSink.meshes c.write_lines.new.out) c.write_lines.new.page lines (g.M.MeshSink.meshes c.finish.new.self)
    c.in_ok-write_rest.ensures.mesh.ok)
    c.finish.ensures.mesh.ok

pub returns-clause-err : goal.returns-clause-err
returns-clause-err g c =
    let lines = subst (λ page. Passed (g.M.MeshSink.meshes c.begin.new.self) (g.M.MeshSink.meshes c.write_lines.new.out)
    page c.write_lines.new.page (view_text c.args.view.now)) c.new-page.ensures c.in_ok-write_lines.ensures.ok in
    on_err_weaker c.finish.result
    (part-finish _ (g.M.MeshSink.meshes c.begin.new.self)
    (g.M.MeshSink.meshes c.write_rest.new.out) _ _ _ c.in_ok-begin.ensures.mesh.ok
    (g.M.MeshSink.meshes c.write_lines.new.out) c.write_lines.new.page lines (g.M.MeshSink.meshes c.finish.new.self)
    c.in_ok-write_rest.ensures.mesh.ok)
    c.finish.ensures.mesh.failed

pub returns-in_err-write_lines-clause-begun : goal.returns-in_err-write_lines-clause-begun
returns-in_err-write_lines-clause-begun g c =
    let p =
    err_from_is_err_and c.from_residual-in_err-write_lines.result c.from_residual-in_err-write_lines.ensures.1 in
    rw p.1 (λ _. begun-cut _ (g.M.MeshSink.meshes c.begin.new.self) _ _ _ _ c.in_ok-begin.ensures.mesh.ok
    (subst (λ page. Broken (g.M.MeshSink.meshes c.begin.new.self) (g.M.MeshSink.meshes c.write_lines.new.out)
    (page ++ view_text c.args.view.now)) c.new-page.ensures c.in_err-write_lines.ensures.err))

pub returns-in_err-write_rest-clause-begun : goal.returns-in_err-write_rest-clause-begun
returns-in_err-write_rest-clause-begun g c =
    let p = err_from_is_err_and c.from_residual-in_err-write_rest.result c.from_residual-in_err-write_rest.ensures.1 in
    let lines = subst (λ page. Passed (g.M.MeshSink.meshes c.begin.new.self) (g.M.MeshSink.meshes c.write_lines.new.out)
    page c.write_lines.new.page (view_text c.args.view.now)) c.new-page.ensures c.in_ok-write_lines.ensures.ok in
    rw p.1 (λ _. begun-rest _ (g.M.MeshSink.meshes c.begin.new.self) _ _ _ _ c.in_ok-begin.ensures.mesh.ok
    (g.M.MeshSink.meshes c.write_lines.new.out) c.write_lines.new.page lines c.in_err-write_rest.ensures.mesh.failed)

pub returns-clause-begun : goal.returns-clause-begun
returns-clause-begun g c =
    let lines = subst (λ page. Passed (g.M.MeshSink.meshes c.begin.new.self) (g.M.MeshSink.meshes c.write_lines.new.out)
    page c.write_lines.new.page (view_text c.args.view.now)) c.new-page.ensures c.in_ok-write_lines.ensures.ok in
    on_err_weaker c.finish.result
    (λ same _. begun-finish _ (g.M.MeshSink.meshes c.begin.new.self)
    (g.M.MeshSink.meshes c.write_rest.new.out) _ _ _ c.in_ok-begin.ensures.mesh.ok
    (g.M.MeshSink.meshes c.write_lines.new.out) c.write_lines.new.page lines (g.M.MeshSink.meshes c.finish.new.self)
    c.in_ok-write_rest.ensures.mesh.ok same)
    c.finish.ensures.mesh.failed
