-- The note of a frame in the words of pictures. All of it is this project's own.
-- Words: picture_seen, IsNoted, note_marks, note_line.
use Rattle.std.specs.Prelude.{◌≡◌, ℕ, List, [], ◌∷◌, ◌++◌, length, codes, decimal}
use Rattle.mesh_defs.specs.declared.mark.Mark.TheVariants.{Inside, Cut, Outside}
use Rattle.mesh_defs.specs.View.{ViewPlane}
use Rattle.mesh_defs.specs.MeshText.{vertices_of}
use Rattle.roam_mesh.specs.Mesh.{pool_members}
use Rattle.frame_loop.specs.Engine.{EngineState, mesh_seen}
use Rattle.frame_loop.specs.declared.note.FrameNote.{FrameNote}
use Rattle.run_laws.specs.Picture as shown
use Rattle.run_laws.specs.ReportText.{blocked_text}

-- what the frame shows that an engine has made, and of which it tells this note
abbrev pub picture_seen : EngineState → FrameNote → shown.Picture
picture_seen engine note = record {
  state = engine.state;
  members = pool_members engine.mesh.pool;
  worst = note.worst;
  blocked = note.blocked;
  splits = note.splits;
  merges = note.merges;
}

-- the counts of the note are those of the engine's mesh
pub record IsNoted (engine : EngineState) (note : FrameNote) : Type 0 where
  pub triangle_count : note.triangles ≡ length (mesh_seen engine)
  pub vertex_count : note.vertices ≡ length (vertices_of engine.state.grid.n (mesh_seen engine))
  pub inside_count : note.inside ≡ shown.mark_count engine.state Inside (mesh_seen engine)
  pub cut_count : note.cut ≡ shown.mark_count engine.state Cut (mesh_seen engine)
  pub outside_count : note.outside ≡ shown.mark_count engine.state Outside (mesh_seen engine)

-- how many triangles have each mark, where a plane is in force
abbrev pub note_marks : List ViewPlane → FrameNote → List ℕ
note_marks [] note = []
note_marks (_ ∷ _) note =
    codes " inside " ++ decimal note.inside ++ codes " cut " ++ decimal note.cut
    ++ codes " outside " ++ decimal note.outside

-- the line of the frame of this number, from its note
abbrev pub note_line : ℕ → List ViewPlane → FrameNote → List ℕ
note_line number planes note =
    codes "frame " ++ decimal number ++ codes " triangles " ++ decimal note.triangles
    ++ codes " vertices " ++ decimal note.vertices ++ codes " worst " ++ decimal note.worst
    ++ codes " splits " ++ decimal note.splits ++ codes " merges " ++ decimal note.merges
    ++ codes " blocked " ++ blocked_text note.blocked ++ note_marks planes note ++ codes "\n"
