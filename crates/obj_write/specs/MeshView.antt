-- The text of a mesh view, and what a mesh view has to be. This project's own words.
-- Words: view_text, IsView, IsShown, group_text.
use Rattle.std.specs.Prelude.{◌≡◌, ℕ, ◌*◌, ◌≤◌, true, List, ◌++◌, All, codes}
use Rattle.wedgie_tree.specs.declared.wedges.TheConstants.{GREATEST_SPACING}
use Rattle.mesh_defs.specs.declared.point.Point.{Point}
use Rattle.mesh_defs.specs.declared.mark.Mark.{Mark}
use Rattle.mesh_defs.specs.Triangle.{level_of, corners_of}
use Rattle.mesh_defs.specs.MeshText.{mesh_text, has_corner, mark_name}
use Rattle.obj_write.specs.declared.mesh.MeshView.{MeshView}
use Rattle.obj_write.specs.Numbers.{numbers_of}
use Rattle.obj_write.specs.VertexMarks.{is_vertex}

-- the text of the mesh
abbrev pub view_text : MeshView → List ℕ
view_text v = mesh_text v.wedges.now.n v.wedges.now.heights v.spacing v.planes.now v.leaves.now

-- The triangles are of the grid, the numbers those of their vertices, and the spacing lies in its bounds.
pub record IsView (v : MeshView) : Type 0 where
  pub levels : All (λ a. level_of a ≤ 2 * v.wedges.now.n) v.leaves.now
  pub vertex_numbers : v.numbers.now ≡ numbers_of v.wedges.now.n v.leaves.now
  pub spacing_low : 1 ≤ v.spacing
  pub spacing_high : v.spacing ≤ GREATEST_SPACING

-- each corner of the triangle is a vertex of the mesh
abbrev pub IsShown : ℕ → List ℕ → ℕ → Type 0
IsShown n triangles a = (p : Point) → has_corner (corners_of n a) p ≡ true → is_vertex n triangles p ≡ true

-- the group line of a mark
abbrev pub group_text : Mark → List ℕ
group_text mark = codes "g " ++ mark_name mark ++ codes "\n"
