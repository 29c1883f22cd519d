-- The vertices of the mesh of a closed set.
use Rattle.std.proofs.Common.{◌≡◌, ℕ, zero, suc, ◌+◌, ◌-◌, ◌*◌, ◌/◌, ◌%◌, ◌^◌, ◌≤◌, ◌⊎◌, ◌||◌, ◌↔◌, inl, inr, Bool}
use Rattle.std.proofs.Common.{true, false, IsTrue, refl, sym, ◌∙◌, ap₂, subst, arith, ⊎_elim}
use Rattle.std.proofs.lemmas.Bool.{cases_Bool, both_ways, or_left, or_right, or_cases}
use Rattle.std.proofs.lemmas.List.Elements.{All-contains}
use Rattle.mesh_defs.specs.declared.point.Point.{Point}
use Rattle.mesh_defs.specs.declared.point.Corners.{Corners}
use Rattle.mesh_defs.specs.Triangle.{level_of, base_triangle, IsSplittable, corners_of, IsCorner}
use Rattle.mesh_defs.specs.ClosedSet.{IsClosed, leaves_of}
use Rattle.mesh_defs.specs.BoundingBox.{point}
use Rattle.mesh_defs.specs.MeshText.{is_same_point, has_corner}
use Rattle.mesh_defs.proofs.ListLemmas.{Contains-in, Any-in, list_any-in}
use Rattle.mesh_defs.proofs.PointLemmas.{same_point-eq, eq-same_point}
use Rattle.mesh_defs.proofs.TestLemmas.{same_tests}
use Rattle.bintree_laws.proofs.CornerLemmas.{corners_of-2, corners_of-3, corners_of-left, corners_of-right}
use Rattle.bintree_laws.proofs.CornerLemmas.{IsWithin-corners_of}
use Rattle.bintree_laws.proofs.LatticeLemmas.{HasEvenBase-corners_of}
use Rattle.mesh_laws.proofs.DescentLemmas.{IsDown, IsDown-left, IsDown-right, IsDown-splittable, IsDown-2, IsDown-3}
use Rattle.mesh_laws.proofs.DescentLemmas.{IsAddress-down, IsAddress-splittable}
use Rattle.mesh_laws.proofs.OrientationLemmas.{apart}
use Rattle.mesh_laws.proofs.ConformityLemmas.{IsLeaf, IsLeaf-leaves_of, same_middle}
use Rattle.mesh_laws.proofs.ClosureLemmas.{leaf-outer}
use Rattle.mesh_laws.specs.Vertex.{is_mesh_vertex, centre_of, IsSquareCorner, IsCentre}

-- corners

-- a corner passes the test of corners
pub corner-has : (c : Corners) (p : Point) → IsCorner c p → has_corner c p ≡ true
corner-has c p (inl e) =
    or_left (is_same_point p c.apex) (is_same_point p c.v0 || is_same_point p c.v1) (eq-same_point p c.apex e)
corner-has c p (inr (inl e)) = or_right (is_same_point p c.apex) (is_same_point p c.v0 || is_same_point p c.v1)
    (or_left (is_same_point p c.v0) (is_same_point p c.v1) (eq-same_point p c.v0 e))
corner-has c p (inr (inr e)) = or_right (is_same_point p c.apex) (is_same_point p c.v0 || is_same_point p c.v1)
    (or_right (is_same_point p c.v0) (is_same_point p c.v1) (eq-same_point p c.v1 e))

-- and what passes it is one
pub has-corner : (c : Corners) (p : Point) → has_corner c p ≡ true → IsCorner c p
has-corner c p h = ⊎_elim
    (λ first. inl (same_point-eq p c.apex first))
    (λ rest. ⊎_elim
    (λ second. inr (inl (same_point-eq p c.v0 second)))
    (λ third. inr (inr (same_point-eq p c.v1 third)))
    (or_cases (is_same_point p c.v0) (is_same_point p c.v1) rest))
    (or_cases (is_same_point p c.apex) (is_same_point p c.v0 || is_same_point p c.v1) h)

-- a corner of a triangle is one of a child
corner_of_child : (n v : ℕ) (p : Point) → 2 ≤ v → IsCorner (corners_of n v) p →
    IsCorner (corners_of n (2 * v)) p ⊎ IsCorner (corners_of n (2 * v + 1)) p
corner_of_child n v p low (inl e) = inl (subst (λ c. IsCorner c p) (sym (corners_of-left n v low)) (inr (inl e)))
corner_of_child n v p low (inr (inl e)) = inl (subst (λ c. IsCorner c p) (sym (corners_of-left n v low)) (inr (inr e)))
corner_of_child n v p low (inr (inr e)) = inr (subst (λ c. IsCorner c p) (sym (corners_of-right n v low)) (inr (inl e)))

-- down to the leaves

-- a corner of a leaf is a vertex
corner_of_leaf : (n : ℕ) (has : ℕ → Bool) (levels v : ℕ) (p : Point) → IsClosed n has →
    IsDown n levels v →
    (4 ≤ v → IsTrue (has (v / 2))) → (IsTrue (has v) → ⊥) → IsCorner (corners_of n v) p →
    is_mesh_vertex n (leaves_of n has) p ≡ true
corner_of_leaf n has levels v p closed down parent outside corner =
    list_any-in (λ a. has_corner (corners_of n a) p) (leaves_of n has) v
    (leaf-outer n has v closed record { address = IsAddress-down n levels v down; outside = outside; parent = parent })
    (corner-has (corners_of n v) p corner)

-- a corner of a triangle whose parent is a member is a vertex: it stays one of a child, down to a leaf
corner_below : (n : ℕ) (has : ℕ → Bool) (levels v : ℕ) (p : Point) → IsClosed n has →
    IsDown n levels v →
    (4 ≤ v → IsTrue (has (v / 2))) → IsCorner (corners_of n v) p →
    is_mesh_vertex n (leaves_of n has) p ≡ true
corner_below n has zero v p closed down parent corner =
    corner_of_leaf n has zero v p closed down parent
    (λ is. let h = (closed.splittable v is).coarse in let l = down.height in omega arith)
    corner
corner_below n has (suc levels) v p closed down parent corner = ⊎_elim
    (λ (member : has v ≡ true). ⊎_elim
    (λ left. corner_below n has levels (2 * v) p closed (IsDown-left n levels v down)
    (λ _. let half : 2 * v / 2 ≡ v = omega arith in subst (λ z. IsTrue (has z)) (sym half) member) left)
    (λ right. corner_below n has levels (2 * v + 1) p closed (IsDown-right n levels v down)
    (λ _. let half : (2 * v + 1) / 2 ≡ v = omega arith in subst (λ z. IsTrue (has z)) (sym half) member) right)
    (corner_of_child n v p down.low corner))
    (λ (whole : has v ≡ false). corner_of_leaf n has (suc levels) v p closed down parent
    (λ is. both_ways (has v) whole is) corner)
    (cases_Bool (has v))

-- the centre of a member is a vertex
pub centre-vertex : (n : ℕ) (has : ℕ → Bool) (a : ℕ) (p : Point) → IsClosed n has →
    IsTrue (has a) → centre_of n a ≡ p →
    is_mesh_vertex n (leaves_of n has) p ≡ true
centre-vertex n has a p closed is same =
    let s : IsSplittable n a = closed.splittable a is in
    let levels : ℕ = 2 * n - level_of a - 1 in
    corner_below n has levels (2 * a) p closed (IsDown-left n levels a (IsDown-splittable n a s))
    (λ _. let half : 2 * a / 2 ≡ a = omega arith in subst (λ z. IsTrue (has z)) (sym half) is)
    (subst (λ c. IsCorner c p) (sym (corners_of-left n a s.low)) (inl (sym same)))

-- a corner of the square is one of a half
square_halves : (m : ℕ) (p : Point) → IsSquareCorner m p →
    IsCorner (base_triangle m 0) p ⊎ IsCorner (base_triangle m 1) p
square_halves m p (inl x, inl y) = inl (inl (ap₂ (λ i j. point i j) x y))
square_halves m p (inr x, inl y) = inl (inr (inl (ap₂ (λ i j. point i j) x y)))
square_halves m p (inl x, inr y) = inl (inr (inr (ap₂ (λ i j. point i j) x y)))
square_halves m p (inr x, inr y) = inr (inl (ap₂ (λ i j. point i j) x y))

-- so it is a vertex
pub square-vertex : (n : ℕ) (has : ℕ → Bool) (p : Point) → IsClosed n has →
    IsSquareCorner (2 ^ n) p → is_mesh_vertex n (leaves_of n has) p ≡ true
square-vertex n has p closed square = ⊎_elim
    (λ lower. corner_below n has (2 * n) 2 p closed (IsDown-2 n) (λ big. absurd (omega arith))
    (subst (λ c. IsCorner c p) (sym (corners_of-2 n)) lower))
    (λ upper. corner_below n has (2 * n) 3 p closed (IsDown-3 n) (λ big. absurd (omega arith))
    (subst (λ c. IsCorner c p) (sym (corners_of-3 n)) upper))
    (square_halves (2 ^ n) p square)

-- up from the leaves

-- a vertex is a corner of the square or the centre of a member
pub vertex-known : (n : ℕ) (has : ℕ → Bool) (p : Point) → is_mesh_vertex n (leaves_of n has) p ≡ true →
    IsSquareCorner (2 ^ n) p ⊎ IsCentre n has p
vertex-known n has p is =
    let e = Any-in (λ a. has_corner (corners_of n a) p) (leaves_of n has) is in
    let listed = Contains-in e.0 (leaves_of n has) e.1 in
    let leaf : IsLeaf n has e.0 = All-contains (IsLeaf n has) (leaves_of n has) e.0 (IsLeaf-leaves_of n has) listed in
    leaf.corners p (has-corner (corners_of n e.0) p e.2)

-- the vertices are just these
pub vertex-place : (n : ℕ) (has : ℕ → Bool) (p : Point) → IsClosed n has →
    IsTrue (is_mesh_vertex n (leaves_of n has) p) ↔ (IsSquareCorner (2 ^ n) p ⊎ IsCentre n has p)
vertex-place n has p closed = (
  λ is. vertex-known n has p is,
  λ known. ⊎_elim (λ square. square-vertex n has p closed square) (λ y. centre-vertex n has y.0 p closed y.1 y.2) known,
)

-- centres

-- ends with an even sum are equal where their middle is at an end of the side
middle_at_end : (m i j : ℕ) → i ≤ m → j ≤ m → (i + j) % 2 ≡ 0 →
    ((i + j) / 2 ≡ 0) ⊎ ((i + j) / 2 ≡ m) → i ≡ j
middle_at_end m i j first second even (inl e) = omega arith
middle_at_end m i j first second even (inr e) = omega arith

-- no centre is a corner of the square
pub centre-inside : (n a : ℕ) → IsSplittable n a → IsSquareCorner (2 ^ n) (centre_of n a) → ⊥
centre-inside n a s square =
    let c : Corners = corners_of n a in
    let within = IsWithin-corners_of n a in
    let even = HasEvenBase-corners_of n a s.coarse in
    let x = middle_at_end (2 ^ n) c.v0.x c.v1.x within.v0_x within.v1_x even.x square.0 in
    let y = middle_at_end (2 ^ n) c.v0.y c.v1.y within.v0_y within.v1_y even.y square.1 in
    (apart n a (IsAddress-splittable n a s)).1 (ap₂ (λ i j. point i j) x y)

-- the centre of a splittable triangle is a vertex exactly where it is a member
pub centre-member : (n : ℕ) (has : ℕ → Bool) (a : ℕ) → IsClosed n has → IsSplittable n a →
    is_mesh_vertex n (leaves_of n has) (centre_of n a) ≡ has a
centre-member n has a closed s = same_tests (is_mesh_vertex n (leaves_of n has) (centre_of n a)) (has a)
    (λ is. ⊎_elim
    (λ square. absurd (centre-inside n a s square))
    (λ y. same_middle n has a y.0 closed s y.1 y.2)
    (vertex-known n has (centre_of n a) is))
    (λ member. centre-vertex n has a (centre_of n a) closed member refl)

-- closed sets that agree on the triangles with this centre both have the point as a vertex, or neither has
pub vertex-same : (n : ℕ) (has other : ℕ → Bool) (p : Point) → IsClosed n has → IsClosed n other →
    ((a : ℕ) → IsSplittable n a → centre_of n a ≡ p → has a ≡ other a) →
    is_mesh_vertex n (leaves_of n has) p ≡ is_mesh_vertex n (leaves_of n other) p
vertex-same n has other p closed too agree =
    same_tests (is_mesh_vertex n (leaves_of n has) p) (is_mesh_vertex n (leaves_of n other) p)
    (carry has other closed too agree)
    (carry other has too closed (λ a s e. sym (agree a s e)))
  where
    carry : (one two : ℕ → Bool) → IsClosed n one → IsClosed n two →
        ((a : ℕ) → IsSplittable n a → centre_of n a ≡ p → one a ≡ two a) →
        is_mesh_vertex n (leaves_of n one) p ≡ true → is_mesh_vertex n (leaves_of n two) p ≡ true
    carry one two c d same is = ⊎_elim
        (λ square. square-vertex n two p d square)
        (λ (y : IsCentre n one p). centre-vertex n two y.0 p d (sym (same y.0 (c.splittable y.0 y.1) y.2) ∙ y.1) y.2)
        (vertex-known n one p is)
