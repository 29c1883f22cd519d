use Rattle.std.proofs.Common.{ℕ, List, [], ◌∷◌, ◌∙◌, ap}
use Rattle.mesh_defs.specs.State.{text_in}
use Rattle.obj_write.specs.MeshView.{view_text}
use Rattle.run_laws.specs.Act.{Act, WholeMesh, ReportText}
use Rattle.run_laws.specs.Picture.{strip_triangles}
use Rattle.run_laws.proofs.DoesLemmas.{does-same}
use Rattle.run_engine.specs.NoteSeen.{picture_seen}
use Rattle.run_engine.proofs.FrameLemmas.{view-text, view-valid}
use Rattle.run_engine.proofs.ShowLemmas.{strip-line}
use Rattle.run_engine.proofs.shows.write_strip.Goals as goal

pub show_mesh-requires-clause-view : goal.show_mesh-requires-clause-view
show_mesh-requires-clause-view g c =
    let view = c.in_order-view.ensures in
    view-valid c.in_order-view.result view.wedges (rw view.leaves view.levels)
    (rw view.leaves view.numbers) view.spacing_low view.spacing_high

pub returns-clause-does : goal.returns-clause-does
returns-clause-does g c note =
    let e = c.args.engine.now in
    let view = c.in_order-view.ensures in
    let acts : ℕ → List ℕ → List ℕ → List Act =
    λ number text line. WholeMesh c.args.prefix.now number text ∷ (ReportText line ∷ []) in
    let text : List ℕ = text_in e.state (strip_triangles (picture_seen e note)) in
    does-same _ _ _ _ c.show_mesh.result
    (ap (λ (k : ℕ). acts k (view_text c.in_order-view.result) c.as_slice.result.now) c.frames.ensures
    ∙ (ap (λ (t : List ℕ). acts e.frames t c.as_slice.result.now)
    (view-text e c.in_order-view.result (strip_triangles (picture_seen e note)) view.wedges view.planes view.spacing
    (view.leaves ∙ c.put_strip.ensures))
    ∙ ap (acts e.frames text)
    (c.as_slice.ensures.value ∙ (c.strip_report-line.ensures
    ∙ strip-line e note e.frames c.put_strip.new.order c.put_strip.ensures))))
    c.show_mesh.ensures.does
