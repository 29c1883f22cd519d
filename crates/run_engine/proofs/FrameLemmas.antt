-- A frame that was written or cut short.
use Rattle.std.proofs.Common.{◌≡◌, ℕ, ◌*◌, ◌≤◌, List, All, [], ◌∷◌, ◌++◌, refl, sym, ◌∙◌, ap, subst, length, codes}
use Rattle.std.proofs.Common.{decimal}
use Rattle.mesh_defs.specs.State.{State, text_in}
use Rattle.run_laws.specs.Picture.{mark_count}
use Rattle.run_laws.specs.ReportText.{frame_line, blocked_text, marks_text}
use Rattle.mesh_defs.specs.HeightField.{HeightField}
use Rattle.mesh_defs.specs.Triangle.{level_of}
use Rattle.wedgie_tree.specs.declared.wedges.TheConstants.{GREATEST_SPACING}
use Rattle.obj_write.specs.Numbers.{numbers_of}
use Rattle.mesh_defs.specs.View.{ViewPlane}
use Rattle.mesh_defs.specs.ClosedSet.{leaves_of, among}
use Rattle.mesh_defs.specs.MeshText.{mesh_text, vertices_of}
use Rattle.mesh_defs.specs.declared.mark.Mark.TheVariants.{Inside, Cut, Outside}
use Rattle.obj_write.specs.declared.mesh.MeshView.{MeshView}
use Rattle.obj_write.specs.MeshView.{view_text, IsView}
use Rattle.roam_mesh.specs.Mesh.{MeshState, pool_members}
use Rattle.frame_loop.specs.Engine.{EngineState, IsFrameDone, mesh_seen}
use Rattle.frame_loop.specs.declared.note.FrameNote.{FrameNote}
use Rattle.run_engine.specs.NoteSeen.{picture_seen, IsNoted, note_marks, note_line}

-- the counts of a note are those of a mesh under a state
record IsFrameCounted (state : State) (mesh : MeshState) (note : FrameNote) : Type 0 where
  pub triangle_count : note.triangles ≡ length (leaves_of state.grid.n (among (pool_members mesh.pool)))
  pub vertex_count : note.vertices
      ≡ length (vertices_of state.grid.n (leaves_of state.grid.n (among (pool_members mesh.pool))))
  pub inside_count : note.inside ≡ mark_count state Inside (leaves_of state.grid.n (among (pool_members mesh.pool)))
  pub cut_count : note.cut ≡ mark_count state Cut (leaves_of state.grid.n (among (pool_members mesh.pool)))
  pub outside_count : note.outside ≡ mark_count state Outside (leaves_of state.grid.n (among (pool_members mesh.pool)))

-- the view of an engine may be written
pub view-valid : (view : MeshView) {grid : HeightField} → view.wedges.now ≡ grid →
    All (λ a. level_of a ≤ 2 * grid.n) view.leaves.now
    → view.numbers.now ≡ numbers_of grid.n view.leaves.now → 1 ≤ view.spacing →
    view.spacing ≤ GREATEST_SPACING → IsView view
view-valid view {grid} same levels numbers low high = record {
  levels = subst (λ (g : HeightField). All (λ a. level_of a ≤ 2 * g.n) view.leaves.now) (sym same) levels;
  vertex_numbers = numbers ∙ ap (λ (g : HeightField). numbers_of g.n view.leaves.now) (sym same);
  spacing_low = low;
  spacing_high = high;
}

-- the text that is written of these triangles of an engine is theirs in its state
pub view-text : (engine : EngineState) (view : MeshView) (triangles : List ℕ) → view.wedges.now ≡ engine.state.grid →
    view.planes.now ≡ engine.state.view.planes
    → view.spacing ≡ engine.state.view.spacing → view.leaves.now ≡ triangles →
    view_text view ≡ text_in engine.state triangles
view-text engine view triangles grid planes spacing leaves =
    ap (λ (g : HeightField). mesh_text g.n g.heights view.spacing view.planes.now view.leaves.now) grid
    ∙ (ap (λ (l : List ViewPlane).
    mesh_text engine.state.grid.n engine.state.grid.heights view.spacing l view.leaves.now) planes
    ∙ (ap (λ (k : ℕ).
    mesh_text engine.state.grid.n engine.state.grid.heights k engine.state.view.planes view.leaves.now) spacing
    ∙ ap (text_in engine.state) leaves))

-- the marks of a note are those of the mesh
note-marks : (engine : EngineState) (note : FrameNote) (planes : List ViewPlane) → IsNoted engine note
    → note_marks planes note ≡ marks_text engine.state planes (mesh_seen engine)
note-marks engine note [] is = refl
note-marks engine note (plane ∷ planes) is = rw (is.inside_count, is.cut_count, is.outside_count) refl

-- the line of a note, with these counts and marks
abbrev line_with : ℕ → FrameNote → ℕ → ℕ → List ℕ → List ℕ
line_with number note triangles vertices marks =
    codes "frame " ++ decimal number ++ codes " triangles " ++ decimal triangles
    ++ codes " vertices " ++ decimal vertices ++ codes " worst " ++ decimal note.worst
    ++ codes " splits " ++ decimal note.splits ++ codes " merges " ++ decimal note.merges
    ++ codes " blocked " ++ blocked_text note.blocked ++ marks ++ codes "\n"

-- the line of a note is that of the picture
pub note-text : (number : ℕ) (engine : EngineState) (note : FrameNote) → IsNoted engine note
    → note_line number engine.state.view.planes note ≡ frame_line number (picture_seen engine note)
note-text number engine note is =
    let planes : List ViewPlane = engine.state.view.planes in
    let leaves : List ℕ = mesh_seen engine in
    ap (λ (t : ℕ). line_with number note t note.vertices (note_marks planes note)) is.triangle_count
    ∙ (ap (λ (v : ℕ). line_with number note (length leaves) v (note_marks planes note)) is.vertex_count
    ∙ ap (λ (m : List ℕ). line_with number note (length leaves) (length (vertices_of engine.state.grid.n leaves)) m)
    (note-marks engine note planes is))

-- the note of a frame has the counts of its mesh
pub done-noted : (old new : EngineState) (note : FrameNote) → IsFrameDone old new note → IsNoted new note
done-noted old new note done =
    let P : State → Type 0 = λ s. IsFrameCounted s new.mesh note in
    let counted : IsFrameCounted new.state new.mesh note = subst P (sym done.state) (record {
      triangle_count = done.triangles;
      vertex_count = done.vertices;
      inside_count = done.inside;
      cut_count = done.cut;
      outside_count = done.outside;
    }) in
    record {
      triangle_count = counted.triangle_count;
      vertex_count = counted.vertex_count;
      inside_count = counted.inside_count;
      cut_count = counted.cut_count;
      outside_count = counted.outside_count;
    }
