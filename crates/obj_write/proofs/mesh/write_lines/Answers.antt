use Rattle.std.proofs.Common.{◌≡◌, List, ℕ, ◌++◌, rules, sym, ◌∙◌, ap, subst, append-nil}
use Rattle.std.proofs.lemmas.Result.{err_from_is_err_and}
use Rattle.obj_write.specs.Page.{Passed}
use Rattle.obj_write.specs.MeshView.{view_text}
use Rattle.obj_write.proofs.PageLemmas.{passed-start, passed-on, broken-longer, broken-on}
use Rattle.obj_write.proofs.mesh.write_lines.Goals as goal

pub lines-init : goal.lines-init
lines-init g c =
    let all = view_text c.args.view.now in
    let passed : Passed (g.M.MeshSink.meshes c.args.out.now) (g.M.MeshSink.meshes c.make_room.new.out) c.args.page.now
    (c.make_room.new.page ++ all) all =
    passed-on _ _ _ c.args.page.now c.args.page.now c.make_room.new.page all all
    (passed-start (g.M.MeshSink.meshes c.args.out.now) c.args.page.now all) c.in_ok-make_room.ensures.ok in
    record {
      under_way = search rules;
      calm = search rules;
      room = c.in_ok-make_room.ensures.room;
      passed = subst (λ text.
          Passed (g.M.MeshSink.meshes c.args.out.now) (g.M.MeshSink.meshes c.make_room.new.out) c.args.page.now
          (c.make_room.new.page ++ text) all)
          (sym (c.new-lines.ensures.text ∙ ap view_text c.copy.ensures)) passed;
      in_time = search rules;
    }

pub lines-preserved : goal.lines-preserved
lines-preserved g c =
    let lines =
    subst (λ t. Passed (g.M.MeshSink.meshes c.args.out.now) (g.M.MeshSink.meshes c.lines.out) c.args.page.now t
    (view_text c.args.view.now)) (sym c.put_next.ensures.text) c.lines.invariant.passed in
    record {
      under_way = search rules;
      calm = search rules;
      room = c.in_ok-make_room-2.ensures.room;
      passed = passed-on (g.M.MeshSink.meshes c.args.out.now) (g.M.MeshSink.meshes c.lines.out)
          (g.M.MeshSink.meshes c.make_room-in-lines.new.out) c.args.page.now c.put_next.new.page
          c.make_room-in-lines.new.page
          c.put_next.new.self.text (view_text c.args.view.now) lines c.in_ok-make_room-2.ensures.ok;
      in_time = search rules;
    }

pub returns-in_err-make_room-clause-err : goal.returns-in_err-make_room-clause-err
returns-in_err-make_room-clause-err g c =
    let p = err_from_is_err_and c.from_residual.result c.from_residual.ensures.1 in
    rw p.1 (broken-longer (g.M.MeshSink.meshes c.args.out.now) (g.M.MeshSink.meshes c.make_room.new.out) c.args.page.now
    (view_text c.args.view.now) c.in_err-make_room.ensures.err)

pub returns-in_err-make_room-2-clause-err : goal.returns-in_err-make_room-2-clause-err
returns-in_err-make_room-2-clause-err g c =
    let p =
    err_from_is_err_and c.from_residual-in_err-make_room-2.result c.from_residual-in_err-make_room-2.ensures.1 in
    let lines =
    subst (λ t. Passed (g.M.MeshSink.meshes c.args.out.now) (g.M.MeshSink.meshes c.lines.out) c.args.page.now t
    (view_text c.args.view.now)) (sym c.put_next.ensures.text) c.lines.invariant.passed in
    rw p.1 (broken-on (g.M.MeshSink.meshes c.args.out.now) (g.M.MeshSink.meshes c.lines.out)
    (g.M.MeshSink.meshes c.make_room-in-lines.new.out) c.args.page.now c.put_next.new.page c.put_next.new.self.text
    (view_text c.args.view.now) lines c.in_err-make_room-2.ensures.err)

pub returns-clause-ok : goal.returns-clause-ok
returns-clause-ok g c =
    let ended = c.put_next.ensures.ended c.lines-test.false in
    let page = c.put_next.new.page in
    let same : c.lines.page ++ c.lines.lines.text ≡ page =
    sym c.put_next.ensures.text ∙ ap (λ (t : List ℕ). page ++ t) ended.1 ∙ append-nil page in
    subst (λ t. Passed (g.M.MeshSink.meshes c.args.out.now) (g.M.MeshSink.meshes c.lines.out) c.args.page.now t
    (view_text c.args.view.now)) same c.lines.invariant.passed
