-- The text of a mesh as a Wavefront OBJ file: its vertices, its triangles, and groups by their marks.
-- Source: the Wavefront object file format, the lines v, f and g. Every line ends with one LF (10).
use Rattle.std.specs.Prelude.{ℕ, ◌+◌, ◌*◌, Bool, true, false, ◌&&◌, ◌||◌, ◌==◌, if◌then◌else◌, List, [], ◌∷◌, ◌++◌}
use Rattle.std.specs.Prelude.{filter, flat_map, position, length, Option, Some, None, unwrap_or, codes, decimal}
use Rattle.std.specs.List.{list_any}
use Rattle.mesh_defs.specs.declared.point.Point.{Point}
use Rattle.mesh_defs.specs.declared.point.Corners.{Corners}
use Rattle.mesh_defs.specs.declared.mark.Mark.{Mark}
use Rattle.mesh_defs.specs.declared.mark.Mark.TheVariants.{Inside, Cut, Outside}
use Rattle.mesh_defs.specs.Triangle.{corners_of}
use Rattle.mesh_defs.specs.Thickness.{height_of}
use Rattle.mesh_defs.specs.BoundingBox.{points_of, box_of}
use Rattle.mesh_defs.specs.View.{ViewPlane, mark_of}

-- two points are the same
abbrev pub is_same_point : Point → Point → Bool
is_same_point p q = (p.x == q.x) && (p.y == q.y)

-- p is one of the three corners
abbrev pub has_corner : Corners → Point → Bool
has_corner c p = is_same_point p c.apex || (is_same_point p c.v0 || is_same_point p c.v1)

-- the corners of the triangles, each once, by y and then by x
unfoldable pub vertices_of : ℕ → List ℕ → List Point
vertices_of n triangles = filter (λ p. list_any (λ a. has_corner (corners_of n a) p) triangles) (points_of n)

-- the number of a vertex, counted from 1
abbrev pub vertex_number : List Point → Point → ℕ
vertex_number vertices p = unwrap_or (position (is_same_point p) vertices) (length vertices) + 1

-- three numbers behind a word of one letter, with one blank before each
abbrev pub numbers_line : ℕ → ℕ → ℕ → ℕ → List ℕ
numbers_line letter i j k =
    letter ∷ [] ++ codes " " ++ decimal i ++ codes " " ++ decimal j ++ codes " " ++ decimal k ++ codes "\n"

-- `v X Y H`: x and y times the spacing, and the height
abbrev pub vertex_line : ℕ → List ℕ → ℕ → Point → List ℕ
vertex_line n heights spacing p = numbers_line 118 (spacing * p.x) (spacing * p.y) (height_of n heights p)

-- `f A B C`: the vertex numbers of apex, v0 and v1
abbrev pub face_line : List Point → Corners → List ℕ
face_line vertices c =
    numbers_line 102 (vertex_number vertices c.apex) (vertex_number vertices c.v0) (vertex_number vertices c.v1)

abbrev pub mark_name : Mark → List ℕ
mark_name Inside = codes "inside"
mark_name Cut = codes "cut"
mark_name Outside = codes "outside"

abbrev pub is_same_mark : Mark → Mark → Bool
is_same_mark Inside Inside = true
is_same_mark Cut Cut = true
is_same_mark Outside Outside = true
is_same_mark _ _ = false

-- the mark is that of the triangle before
abbrev pub is_mark_before : Option Mark → Mark → Bool
is_mark_before None mark = false
is_mark_before (Some before) mark = is_same_mark before mark

-- `g MARK`, where a plane is in force and the triangle before has another mark or there is none before
abbrev pub group_line : List ViewPlane → Option Mark → Mark → List ℕ
group_line [] before mark = []
group_line (_ ∷ _) before mark =
    if is_mark_before before mark then [] else codes "g " ++ mark_name mark ++ codes "\n"

-- the mark of a triangle under the planes
abbrev pub triangle_mark : ℕ → List ℕ → ℕ → List ViewPlane → ℕ → Mark
triangle_mark n heights spacing planes a = mark_of planes (box_of n heights spacing a)

-- for each triangle its group line, where it has one, and its face line
abbrev pub face_lines : ℕ → List ℕ → ℕ → List ViewPlane → List Point → Option Mark → List ℕ → List ℕ
face_lines n heights spacing planes vertices before [] = []
face_lines n heights spacing planes vertices before (a ∷ triangles) =
    group_line planes before (triangle_mark n heights spacing planes a)
    ++ face_line vertices (corners_of n a)
    ++ face_lines n heights spacing planes vertices (Some (triangle_mark n heights spacing planes a)) triangles

-- The text of a mesh: its vertex lines, and then its faces in the list's order.
unfoldable pub mesh_text : ℕ → List ℕ → ℕ → List ViewPlane → List ℕ → List ℕ
mesh_text n heights spacing planes triangles =
    flat_map (vertex_line n heights spacing) (vertices_of n triangles)
    ++ face_lines n heights spacing planes (vertices_of n triangles) None triangles
