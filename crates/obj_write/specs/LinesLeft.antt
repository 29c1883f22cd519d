-- What is left of the text of a mesh view. This project's own words.
-- Words: LinesLeft, vertex_lines_from, vertex_text, face_text.
use Rattle.std.specs.Prelude.{ℕ, ◌-◌, ◌*◌, List, Option, map, filter, flat_map, drop}
use Rattle.std.specs.List.{range_with_len}
use Rattle.mesh_defs.specs.declared.mark.Mark.{Mark}
use Rattle.mesh_defs.specs.HeightField.{side_of}
use Rattle.mesh_defs.specs.MeshText.{vertex_line, vertices_of, face_lines}
use Rattle.obj_write.specs.declared.mesh.MeshView.{MeshView}
use Rattle.obj_write.specs.VertexMarks.{place_point, is_vertex}

-- a text that is to come, and how many lines it has at most, where a group line counts with its face
pub record LinesLeft : Type 0 where
  pub text : List ℕ
  pub most : ℕ

-- the lines of the vertices from a place on
abbrev pub vertex_lines_from : ℕ → List ℕ → ℕ → List ℕ → ℕ → List ℕ
vertex_lines_from n heights spacing triangles k =
    flat_map (vertex_line n heights spacing)
    (filter (is_vertex n triangles) (map (place_point n) (range_with_len k (side_of n * side_of n - k))))

-- the lines of the vertices of a view, from a place on
unfoldable pub vertex_text : MeshView → ℕ → List ℕ
vertex_text v k = vertex_lines_from v.wedges.now.n v.wedges.now.heights v.spacing v.leaves.now k

-- the lines of the faces of a view, from a triangle on, with the mark before it
unfoldable pub face_text : MeshView → ℕ → Option Mark → List ℕ
face_text v i before =
    face_lines v.wedges.now.n v.wedges.now.heights v.spacing v.planes.now
    (vertices_of v.wedges.now.n v.leaves.now) before
    (drop i v.leaves.now)
