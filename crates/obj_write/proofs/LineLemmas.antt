-- What is left of the text of a mesh view: at first, behind one more line, and at the end.
use Rattle.std.proofs.Common.{◌≡◌, ℕ, zero, suc, ◌+◌, ◌-◌, ◌*◌, ◌^◌, ◌<◌, ◌≤◌, Bool, true, cond, ◌||◌, List, [], ◌∷◌}
use Rattle.std.proofs.Common.{◌++◌, length, map, filter, flat_map, get_or, drop, Option, Some, None, refl, sym, ◌∙◌, ap}
use Rattle.std.proofs.Common.{ap₂, arith, append_assoc}
use Rattle.std.specs.List.{range_with_len}
use Rattle.std.proofs.Math.Seq.{drop-cons}
use Rattle.std.proofs.lemmas.List.{drop_all}
use Rattle.std.proofs.lemmas.List.Folds.{list_any_at}
use Rattle.mesh_defs.specs.declared.point.Point.{Point}
use Rattle.mesh_defs.specs.declared.mark.Mark.{Mark}
use Rattle.mesh_defs.specs.HeightField.{side_of}
use Rattle.mesh_defs.specs.Triangle.{corners_of}
use Rattle.mesh_defs.specs.MeshText.{mesh_text, is_same_point, has_corner, vertices_of, vertex_number, vertex_line}
use Rattle.mesh_defs.specs.MeshText.{numbers_line, face_line, face_lines, group_line, triangle_mark}
use Rattle.obj_write.specs.declared.mesh.MeshView.{MeshView}
use Rattle.obj_write.specs.VertexMarks.{place_point, is_vertex}
use Rattle.obj_write.specs.MeshView.{view_text, IsView, IsShown}
use Rattle.obj_write.specs.Scan.{IsClear}
use Rattle.obj_write.specs.LinesLeft.{vertex_text, face_text}
use Rattle.std.proofs.Math.Bool.{or-true}
use Rattle.mesh_defs.proofs.PointLemmas.{eq-same_point}
use Rattle.bintree_laws.specs.Corners.{IsInSquare}
use Rattle.bintree_laws.proofs.CornerLemmas.{IsWithin-corners_of}
use Rattle.obj_write.specs.declared.faces.Corner.{Corner}
use Rattle.obj_write.specs.Field.{letter_line}
use Rattle.obj_write.specs.Faces.{IsCornerAt}
use Rattle.obj_write.proofs.FieldLemmas.{fields-line}
use Rattle.obj_write.proofs.NumberLemmas.{vertices-placed, length-numbers, no-vertex, some-vertex, number-of-vertex}

-- the lines of the vertices at so many places from one on
abbrev lines_at : MeshView → ℕ → ℕ → List ℕ
lines_at v k m =
    flat_map (vertex_line v.wedges.now.n v.wedges.now.heights v.spacing)
    (filter (is_vertex v.wedges.now.n v.leaves.now) (map (place_point v.wedges.now.n) (range_with_len k m)))

-- the lines with a place that is a vertex, or is none
abbrev lines_if : MeshView → ℕ → ℕ → Bool → List ℕ
lines_if v k m shows =
    flat_map (vertex_line v.wedges.now.n v.wedges.now.heights v.spacing)
    (cond shows (place_point v.wedges.now.n k ∷ filter (is_vertex v.wedges.now.n v.leaves.now)
    (map (place_point v.wedges.now.n) (range_with_len (k + 1) m)))
    (filter (is_vertex v.wedges.now.n v.leaves.now) (map (place_point v.wedges.now.n) (range_with_len (k + 1) m))))

-- how many numbers a view has
pub places : (v : MeshView) → IsView v → length v.numbers.now ≡ side_of v.wedges.now.n * side_of v.wedges.now.n
places v view = ap length view.vertex_numbers ∙ length-numbers v.wedges.now.n v.leaves.now

-- at a place without a number
pub vertex-text-skip : (v : MeshView) → IsView v → (k : ℕ) → k < length v.numbers.now → get_or v.numbers.now k 0 ≡ 0 →
    vertex_text v (k + 1) ≡ vertex_text v k
unfolding vertex_text
vertex-text-skip v view k below none_there =
    let long = places v view in
    let size : ℕ = side_of v.wedges.now.n * side_of v.wedges.now.n in
    let more : size - k ≡ suc (size - (k + 1)) = omega arith in
    let none = no-vertex v.wedges.now.n v.leaves.now k (omega arith)
    (sym (ap (λ xs. get_or xs k 0) view.vertex_numbers) ∙ none_there) in
    sym (ap (lines_at v k) more ∙ ap (lines_if v k (size - (k + 1))) none)

-- at a place with a number
pub vertex-text-step : (v : MeshView) → IsView v → (k : ℕ) → k < length v.numbers.now →
    (get_or v.numbers.now k 0 ≡ 0 → ⊥) →
    vertex_text v k ≡ vertex_line v.wedges.now.n v.wedges.now.heights v.spacing
    (place_point v.wedges.now.n k) ++ vertex_text v (k + 1)
unfolding vertex_text
vertex-text-step v view k below some_there =
    let long = places v view in
    let size : ℕ = side_of v.wedges.now.n * side_of v.wedges.now.n in
    let more : size - k ≡ suc (size - (k + 1)) = omega arith in
    let some = some-vertex v.wedges.now.n v.leaves.now k (omega arith)
    (λ none. some_there (ap (λ xs. get_or xs k 0) view.vertex_numbers ∙ none)) in
    ap (lines_at v k) more ∙ ap (lines_if v k (size - (k + 1))) some

-- at so many places without a number
pub vertex-text-clear : (v : MeshView) → IsView v → (k m : ℕ) → k + m ≤ length v.numbers.now →
    ((j : ℕ) → k ≤ j → j < k + m → get_or v.numbers.now j 0 ≡ 0) → vertex_text v (k + m) ≡ vertex_text v k
vertex-text-clear v view k zero within clear = let same : k + 0 ≡ k = omega arith in ap (vertex_text v) same
vertex-text-clear v view k (suc m) within clear =
    let next : k + suc m ≡ k + m + 1 = omega arith in
    ap (vertex_text v) next ∙ vertex-text-skip v view (k + m) (omega arith) (clear (k + m) (omega arith) (omega arith))
    ∙ vertex-text-clear v view k m (omega arith) (λ j low high. clear j low (omega arith))

-- from one place to another, where no number stands between
pub vertex-text-passed : (v : MeshView) → IsView v → (k j : ℕ) → k ≤ j → j ≤ length v.numbers.now →
    IsClear v.numbers.now k j →
    vertex_text v j ≡ vertex_text v k
vertex-text-passed v view k j later within clear =
    let there : k + (j - k) ≡ j = omega arith in
    ap (vertex_text v) (sym there)
    ∙ vertex-text-clear v view k (j - k) (omega arith) (λ i low high. clear i low (omega arith))

-- behind the last place
pub vertex-text-end : (v : MeshView) → IsView v → (k : ℕ) → length v.numbers.now ≤ k → vertex_text v k ≡ []
unfolding vertex_text
vertex-text-end v view k beyond =
    let long = places v view in
    let none : side_of v.wedges.now.n * side_of v.wedges.now.n - k ≡ 0 = omega arith in
    ap (lines_at v k) none

-- at a triangle
pub face-text-step : (v : MeshView) (i d : ℕ) (before : Option Mark) (mark : Mark) → i < length v.leaves.now →
    mark ≡ triangle_mark v.wedges.now.n v.wedges.now.heights v.spacing v.planes.now (get_or v.leaves.now i d) →
    face_text v i before ≡ group_line v.planes.now before mark
    ++ (face_line (vertices_of v.wedges.now.n v.leaves.now)
    (corners_of v.wedges.now.n (get_or v.leaves.now i d)) ++ face_text v (i + 1) (Some mark))
unfolding face_text
face-text-step v i d before mark below mark_is =
    let vertices : List Point = vertices_of v.wedges.now.n v.leaves.now in
    let a : ℕ = get_or v.leaves.now i d in
    let more : suc i ≡ i + 1 = omega arith in
    let tail : drop i v.leaves.now ≡ a ∷ drop (i + 1) v.leaves.now =
    drop-cons v.leaves.now i d below ∙ ap (λ k. a ∷ drop k v.leaves.now) more in
    ap (face_lines v.wedges.now.n v.wedges.now.heights v.spacing v.planes.now vertices before) tail
    ∙ ap (λ m. (group_line v.planes.now before m ++ face_line vertices (corners_of v.wedges.now.n a))
    ++ face_lines v.wedges.now.n v.wedges.now.heights v.spacing v.planes.now vertices (Some m)
    (drop (i + 1) v.leaves.now)) (sym mark_is)
    ∙ append_assoc (group_line v.planes.now before mark) (face_line vertices (corners_of v.wedges.now.n a))
    (face_lines v.wedges.now.n v.wedges.now.heights v.spacing v.planes.now vertices (Some mark)
    (drop (i + 1) v.leaves.now))

-- where no plane is in force, the mark before does not matter
marks-drop : (n : ℕ) (heights : List ℕ) (spacing : ℕ) (vertices : List Point)
    (one other : Option Mark) (triangles : List ℕ) →
    face_lines n heights spacing [] vertices one triangles ≡ face_lines n heights spacing [] vertices other triangles
marks-drop n heights spacing vertices one other [] = refl
marks-drop n heights spacing vertices one other (a ∷ triangles) = refl

pub face-text-any : (v : MeshView) (i : ℕ) (one other : Option Mark) → v.planes.now ≡ [] →
    face_text v i one ≡ face_text v i other
unfolding face_text
face-text-any v i one other none =
    let vertices : List Point = vertices_of v.wedges.now.n v.leaves.now in
    let rest : List ℕ = drop i v.leaves.now in
    ap (λ planes. face_lines v.wedges.now.n v.wedges.now.heights v.spacing planes vertices one rest) none
    ∙ marks-drop v.wedges.now.n v.wedges.now.heights v.spacing vertices one other rest
    ∙ ap (λ planes. face_lines v.wedges.now.n v.wedges.now.heights v.spacing planes vertices other rest) (sym none)

-- behind the last triangle
pub face-text-end : (v : MeshView) (i : ℕ) (before : Option Mark) → length v.leaves.now ≤ i → face_text v i before ≡ []
unfolding face_text
face-text-end v i before beyond =
    ap (face_lines v.wedges.now.n v.wedges.now.heights v.spacing v.planes.now
    (vertices_of v.wedges.now.n v.leaves.now) before)
    (drop_all i v.leaves.now beyond)

-- at first the whole text is left
pub text-start : (v : MeshView) → vertex_text v 0 ++ face_text v 0 None ≡ view_text v
unfolding vertex_text face_text mesh_text
text-start v =
    let size : ℕ = side_of v.wedges.now.n * side_of v.wedges.now.n in
    let whole : size - 0 ≡ size = omega arith in
    ap₂ (λ (xs ys : List ℕ). xs ++ ys)
    (ap (lines_at v 0) whole
    ∙ ap (flat_map (vertex_line v.wedges.now.n v.wedges.now.heights v.spacing))
    (sym (vertices-placed v.wedges.now.n v.leaves.now)))
    refl

-- the next line is of a vertex
pub line-of-vertex : (page line vertices vertices' faces : List ℕ) → vertices ≡ line ++ vertices' →
    (page ++ line) ++ (vertices' ++ faces) ≡ page ++ (vertices ++ faces)
line-of-vertex page line vertices vertices' faces is =
    append_assoc page line (vertices' ++ faces)
    ∙ ap (λ t. page ++ t) (sym (append_assoc line vertices' faces) ∙ ap (λ t. t ++ faces) (sym is))

-- the next lines are of a triangle
pub lines-of-triangle : (page group line vertices faces faces' : List ℕ) → vertices ≡ [] →
    faces ≡ group ++ (line ++ faces') →
    ((page ++ group) ++ line) ++ (vertices ++ faces') ≡ page ++ (vertices ++ faces)
lines-of-triangle page group line vertices faces faces' none is =
    ap (λ t. ((page ++ group) ++ line) ++ (t ++ faces')) none
    ∙ append_assoc (page ++ group) line faces'
    ∙ append_assoc page group (line ++ faces')
    ∙ ap (λ t. page ++ t) (sym is)
    ∙ ap (λ t. page ++ (t ++ faces)) (sym none)

-- a triangle of the list is shown
pub shown : (n : ℕ) (triangles : List ℕ) (i d : ℕ) → i < length triangles → IsShown n triangles (get_or triangles i d)
shown n triangles i d below p here = list_any_at (λ a. has_corner (corners_of n a) p) triangles i d below here

-- the number at the place of a corner is that of the vertex
corner-number : (v : MeshView) → IsView v → (a : ℕ) → IsShown v.wedges.now.n v.leaves.now a → (p : Point) →
    has_corner (corners_of v.wedges.now.n a) p ≡ true → IsInSquare (2 ^ v.wedges.now.n) p → (k : Corner) →
    IsCornerAt v.wedges.now.n v.numbers.now p k →
    get_or v.numbers.now k.place 0 ≡ vertex_number (vertices_of v.wedges.now.n v.leaves.now) p
corner-number v view a is_shown p here within k is =
    ap₂ (λ (xs : List ℕ) (i : ℕ). get_or xs i 0) view.vertex_numbers is.place_is
    ∙ number-of-vertex v.wedges.now.n v.leaves.now p within (is_shown p here)

-- the fields of the corners of a triangle are the line of its face
pub fields-face : (v : MeshView) → IsView v → (a : ℕ) → IsShown v.wedges.now.n v.leaves.now a → (x y z : Corner) →
    IsCornerAt v.wedges.now.n v.numbers.now (corners_of v.wedges.now.n a).apex x →
    IsCornerAt v.wedges.now.n v.numbers.now (corners_of v.wedges.now.n a).v0 y →
    IsCornerAt v.wedges.now.n v.numbers.now (corners_of v.wedges.now.n a).v1 z →
    letter_line 102 x.field y.field z.field ≡ face_line (vertices_of v.wedges.now.n v.leaves.now)
    (corners_of v.wedges.now.n a)
fields-face v view a is_shown x y z first second third =
    let c = corners_of v.wedges.now.n a in
    let w = IsWithin-corners_of v.wedges.now.n a in
    let i = corner-number v view a is_shown c.apex
    (ap (λ b. b || (is_same_point c.apex c.v0 || is_same_point c.apex c.v1)) (eq-same_point c.apex c.apex refl))
    (record { x = w.apex_x; y = w.apex_y }) x first in
    let j = corner-number v view a is_shown c.v0
    (ap (λ b. is_same_point c.v0 c.apex || (b || is_same_point c.v0 c.v1)) (eq-same_point c.v0 c.v0 refl)
    ∙ or-true (is_same_point c.v0 c.apex))
    (record { x = w.v0_x; y = w.v0_y }) y second in
    let k = corner-number v view a is_shown c.v1
    (ap (λ b. is_same_point c.v1 c.apex || (is_same_point c.v1 c.v0 || b)) (eq-same_point c.v1 c.v1 refl)
    ∙ ap (λ b. is_same_point c.v1 c.apex || b) (or-true (is_same_point c.v1 c.v0))
    ∙ or-true (is_same_point c.v1 c.apex))
    (record { x = w.v1_x; y = w.v1_y }) z third in
    fields-line 102 _ _ _ x.field y.field z.field first.field_is second.field_is third.field_is
    ∙ ap (λ m. numbers_line 102 m (get_or v.numbers.now y.place 0) (get_or v.numbers.now z.place 0)) i
    ∙ ap (λ m. numbers_line 102 (vertex_number (vertices_of v.wedges.now.n v.leaves.now) c.apex) m
    (get_or v.numbers.now z.place 0)) j
    ∙ ap (λ m. numbers_line 102 (vertex_number (vertices_of v.wedges.now.n v.leaves.now) c.apex)
    (vertex_number (vertices_of v.wedges.now.n v.leaves.now) c.v0) m) k

-- a list without an entry
pub none-there : {A : Type 0} (xs : List A) → length xs ≡ 0 → xs ≡ []
none-there [] none = refl
none-there (x ∷ xs) none = absurd (omega arith)
