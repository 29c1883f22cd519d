use Rattle.std.proofs.Common.{ℕ, List, [], ◌∷◌, ◌∙◌, sym, ap, subst}
use Rattle.mesh_defs.specs.State.{text_in}
use Rattle.obj_write.specs.declared.mesh.MeshView.{MeshView}
use Rattle.obj_write.specs.MeshView.{view_text, IsView}
use Rattle.run_laws.specs.Act.{Act, WholeMesh, ReportText}
use Rattle.run_laws.specs.Picture.{triangles_of}
use Rattle.run_laws.proofs.DoesLemmas.{does-same}
use Rattle.run_engine.specs.NoteSeen.{picture_seen}
use Rattle.run_engine.proofs.FrameLemmas.{view-text, note-text, view-valid}
use Rattle.run_engine.proofs.frame.write_frame.Goals as goal

pub show_mesh-requires-clause-view : goal.show_mesh-requires-clause-view
show_mesh-requires-clause-view g c =
    subst IsView (sym c.by_table.ensures)
    (view-valid c.view.result c.view.ensures.wedges c.view.ensures.levels c.view.ensures.numbers
    c.view.ensures.spacing_low c.view.ensures.spacing_high)

pub returns-clause-does : goal.returns-clause-does
returns-clause-does g c =
    let e = c.args.engine.now in
    let view = c.view.ensures in
    let acts : ℕ → List ℕ → List ℕ → List Act =
    λ number text line. WholeMesh c.args.prefix.now number text ∷ (ReportText line ∷ []) in
    let text : List ℕ = text_in e.state (triangles_of (picture_seen e c.args.note.now)) in
    does-same _ _ _ _ c.show_mesh.result
    (ap (λ (k : ℕ). acts k (view_text c.by_table.result) c.as_slice.result.now) c.frames.ensures
    ∙ (ap (λ (v : MeshView). acts e.frames (view_text v) c.as_slice.result.now) c.by_table.ensures
    ∙ ap (λ (t : List ℕ). acts e.frames t c.as_slice.result.now)
    (view-text e c.view.result (triangles_of (picture_seen e c.args.note.now))
    view.wedges view.planes view.spacing view.leaves)
    ∙ ap (acts e.frames text)
    (c.as_slice.ensures.value ∙ (c.frame_report-line.ensures ∙ note-text e.frames e c.args.note.now c.requires.noted))))
    c.show_mesh.ensures.does
