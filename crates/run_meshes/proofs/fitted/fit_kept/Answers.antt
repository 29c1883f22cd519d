use Rattle.std.proofs.Common.{refl, ◌∙◌}
use Rattle.run_meshes.proofs.KeptLemmas.{frame-kept}
use Rattle.run_meshes.proofs.fitted.fit_kept.Goals as goal

pub returns : goal.returns
returns c =
    let frame = c.frame_with-note.ensures in
    let level = c.n-n.ensures.value in
    frame-kept
    (record { grid = c.args.grid; fit = c.frame_with-note.new.self; note = c.frame_with-note.result })
    c.args.thousandths c.args.points.now c.args.grid c.args.grid c.n-n.result c.tolerance.result
    c.list_required.new.required.items c.deref.result.now refl refl
    (frame.n ∙ c.requires.level) level c.tolerance.ensures c.deref.ensures.value c.list_required.ensures
    (record {
      least = frame.least;
      in_order = frame.order;
      deviation = frame.deviation;
      triangles = frame.triangles;
      vertices = frame.vertices;
    })
