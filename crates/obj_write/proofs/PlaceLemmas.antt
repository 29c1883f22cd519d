-- The points of the grid by their places, and the marks at the places of the vertices.
use Rattle.std.proofs.Common.{◌≡◌, ℕ, zero, suc, ◌+◌, ◌*◌, ◌/◌, ◌%◌, ◌^◌, ◌<◌, ◌≤◌, Bool, true, false, cond, ◌||◌, List}
use Rattle.std.proofs.Common.{[], ◌∷◌, ◌++◌, length, map, flat_map, get_or, replicate, refl, sym, ◌∙◌, ap, ap₂, arith}
use Rattle.std.specs.List.{range_with_len}
use Rattle.std.proofs.Math.ListN.{set, length-set}
use Rattle.std.proofs.Math.Bool.{or-true, or-false}
use Rattle.std.proofs.lemmas.Bool.{false≢true}
use Rattle.std.proofs.lemmas.Grind.{same_number_lists}
use Rattle.std.proofs.lemmas.List.{get_or-set_same, get_or-set_other, get_or-map, length-map, length-replicate}
use Rattle.std.proofs.lemmas.List.{get_or-replicate, map-append}
use Rattle.std.proofs.lemmas.List.Folds.{list_any-append}
use Rattle.std.proofs.lemmas.List.FromFn.{get_or-map-range_with_len, length-map-range_with_len}
use Rattle.std.proofs.lemmas.Nat.{mul-add-lt, div-mul-add, mod-mul-add, div-add-mod'}
use Rattle.text_laws.proofs.TestLemmas.{by_bool}
use Rattle.text_laws.proofs.ListLemmas.{range-append}
use Rattle.mesh_defs.specs.declared.point.Point.{Point}
use Rattle.mesh_defs.specs.declared.point.Corners.{Corners}
use Rattle.mesh_defs.specs.HeightField.{side_of}
use Rattle.mesh_defs.specs.Triangle.{corners_of}
use Rattle.mesh_defs.specs.BoundingBox.{point, points_of}
use Rattle.mesh_defs.specs.MeshText.{is_same_point, has_corner}
use Rattle.mesh_defs.proofs.PointLemmas.{same_point-eq, eq-same_point}
use Rattle.bintree_laws.specs.Corners.{IsInSquare, IsWithin}
use Rattle.obj_write.specs.VertexMarks.{grid_place, place_point, is_vertex, vertex_marks}

-- where a row has w points
abbrev pub at_width : ℕ → ℕ → Point
at_width w k = point (k % w) (k / w)

-- a part of a row
row-part : (w a b c : ℕ) → b + c ≤ w →
    map (λ x. point x a) (range_with_len b c) ≡ map (at_width w) (range_with_len (a * w + b) c)
row-part w a b zero fits = refl
row-part w a b (suc c) fits =
    let here : point b a ≡ at_width w (a * w + b) =
    ap₂ (λ x y. point x y) (sym (mod-mul-add a w b (omega arith))) (sym (div-mul-add a w b (omega arith))) in
    let next : a * w + (b + 1) ≡ a * w + b + 1 = omega arith in
    ap₂ (λ (p : Point) ps. p ∷ ps) here
    (row-part w a (b + 1) c (omega arith) ∙ ap (λ i. map (at_width w) (range_with_len i c)) next)

-- rows one after another
rows : (w a m : ℕ) →
    flat_map (λ y. map (λ x. point x y) (range_with_len 0 w)) (range_with_len a m)
    ≡ map (at_width w) (range_with_len (a * w) (m * w))
rows w a zero = let none : 0 * w ≡ 0 = omega arith in
    sym (ap (λ c. map (at_width w) (range_with_len (a * w) c)) none)
rows w a (suc m) =
    let first : a * w + 0 ≡ a * w = omega arith in
    let next : (a + 1) * w ≡ a * w + w = omega arith in
    let more : w + m * w ≡ suc m * w = omega arith in
    ap₂ (λ (xs ys : List Point). xs ++ ys)
    (row-part w a 0 w (omega arith) ∙ ap (λ i. map (at_width w) (range_with_len i w)) first)
    (rows w (a + 1) m ∙ ap (λ i. map (at_width w) (range_with_len i (m * w))) next)
    ∙ sym (map-append (at_width w) (range_with_len (a * w) w) (range_with_len (a * w + w) (m * w)))
    ∙ ap (map (at_width w)) (sym (range-append (a * w) w (m * w)) ∙ ap (range_with_len (a * w)) more)

-- the points of the grid are those of the places
pub points-placed : (n : ℕ) → points_of n ≡ map (place_point n) (range_with_len 0 (side_of n * side_of n))
unfolding points_of
points-placed n =
    let start : 0 * side_of n ≡ 0 = omega arith in
    rows (side_of n) 0 (side_of n)
    ∙ ap (λ i. map (place_point n) (range_with_len i (side_of n * side_of n))) start

-- the place of the point at a place
pub place-again : (n k : ℕ) → grid_place n (place_point n k) ≡ k
place-again n k = div-add-mod' k (side_of n)

-- the point at the place of a point
pub point-again : (n : ℕ) (p : Point) → p.x ≤ 2 ^ n → place_point n (grid_place n p) ≡ p
point-again n p x =
    ap₂ (λ i j. point i j) (mod-mul-add p.y (side_of n) p.x (omega arith))
    (div-mul-add p.y (side_of n) p.x (omega arith))

-- the place of a point of the square is one of the grid's
pub place-below : (n : ℕ) (p : Point) → IsInSquare (2 ^ n) p → grid_place n p < side_of n * side_of n
place-below n p within = mul-add-lt p.y (side_of n) p.x (side_of n) (omega arith) (omega arith)

-- the number at a test
abbrev bit : Bool → ℕ
bit b = cond b 1 0

-- a mark that is set
module _ (n : ℕ) (p : Point) (within : IsInSquare (2 ^ n) p) (xs : List ℕ)
    (long : length xs ≡ side_of n * side_of n) where
  mark-set : (k : ℕ) (b : Bool) → get_or xs k 0 ≡ bit b →
      get_or (set xs (grid_place n p) 1) k 0 ≡ bit (b || is_same_point (place_point n k) p)
  mark-set k b before =
      by_bool (is_same_point (place_point n k) p)
      (λ e.
      let there : k ≡ grid_place n p =
      sym (place-again n k) ∙ ap (grid_place n) (same_point-eq (place_point n k) p e) in
      let low : grid_place n p < length xs = let below = place-below n p within in omega arith in
      ap (λ i. get_or (set xs (grid_place n p) 1) i 0) there
      ∙ get_or-set_same xs (grid_place n p) 1 0 low
      ∙ sym (ap bit (ap (λ c. b || c) e ∙ or-true b)))
      (λ e.
      get_or-set_other xs (grid_place n p) k 1 0
      (λ same. false≢true (sym e
      ∙ ap (λ q. is_same_point q p) (ap (place_point n) same ∙ point-again n p within.x) ∙ eq-same_point p p refl))
      ∙ before ∙ sym (ap bit (ap (λ c. b || c) e ∙ or-false b)))

-- three corners and one list of tests
join : (v a b c : Bool) → ((v || a) || b) || c ≡ (v || ((a || (b || c)) || false))
join true a b c = refl
join false true b c = refl
join false false true c = refl
join false false false true = refl
join false false false false = refl

length-marks : (n : ℕ) (triangles : List ℕ) → length (vertex_marks n triangles) ≡ side_of n * side_of n
unfolding vertex_marks
length-marks n triangles =
    length-map (points_of n) (λ p. cond (is_vertex n triangles p) 1 0)
    ∙ ap length (points-placed n) ∙ length-map-range_with_len (place_point n) 0 (side_of n * side_of n)

-- the mark at a place
mark-at : (n : ℕ) (triangles : List ℕ) (k : ℕ) → k < side_of n * side_of n →
    get_or (vertex_marks n triangles) k 0 ≡ bit (is_vertex n triangles (place_point n k))
unfolding vertex_marks
mark-at n triangles k below =
    let whole = points-placed n in
    let long : k < length (points_of n) =
    rw (ap length whole ∙ length-map-range_with_len (place_point n) 0 (side_of n * side_of n)) below in
    get_or-map (λ p. bit (is_vertex n triangles p)) (points_of n) k (point 0 0) 0 long
    ∙ ap (λ ps. bit (is_vertex n triangles (get_or ps k (point 0 0)))) whole
    ∙ ap (λ p. bit (is_vertex n triangles p))
    (get_or-map-range_with_len (place_point n) 0 (side_of n * side_of n) k k (point 0 0) below (omega arith))

-- a list with the mark of each place is the list of marks
marks-from : (n : ℕ) (triangles xs : List ℕ) → length xs ≡ side_of n * side_of n →
    ((k : ℕ) → k < side_of n * side_of n → get_or xs k 0 ≡ bit (is_vertex n triangles (place_point n k))) →
    xs ≡ vertex_marks n triangles
marks-from n triangles xs long each =
    same_number_lists xs (vertex_marks n triangles) (long ∙ sym (length-marks n triangles))
    (λ k below. let low : k < side_of n * side_of n = omega arith in each k low ∙ sym (mark-at n triangles k low))

-- no triangle has no mark
pub marks-none : (n : ℕ) → replicate (side_of n * side_of n) 0 ≡ vertex_marks n []
marks-none n = marks-from n [] (replicate (side_of n * side_of n) 0) (length-replicate (side_of n * side_of n) 0)
    (λ k below. get_or-replicate (side_of n * side_of n) k 0 0 below)

-- the marks with those of one more triangle
pub marks-more : (n : ℕ) (triangles : List ℕ) (a : ℕ) (c : Corners) → c ≡ corners_of n a → IsWithin (2 ^ n) c →
    set (set (set (vertex_marks n triangles) (grid_place n c.apex) 1) (grid_place n c.v0) 1) (grid_place n c.v1) 1
    ≡ vertex_marks n (triangles ++ a ∷ [])
marks-more n triangles a c is within =
    let marks : List ℕ = vertex_marks n triangles in
    let one : List ℕ = set marks (grid_place n c.apex) 1 in
    let two : List ℕ = set one (grid_place n c.v0) 1 in
    let long = length-marks n triangles in
    let long_one = length-set marks (grid_place n c.apex) 1 ∙ long in
    let long_two = length-set one (grid_place n c.v0) 1 ∙ long_one in
    let long_three = length-set two (grid_place n c.v1) 1 ∙ long_two in
    marks-from n (triangles ++ a ∷ []) (set two (grid_place n c.v1) 1) long_three
    (λ k below.
    let p : Point = place_point n k in
    mark-set n c.v1 (record { x = within.v1_x; y = within.v1_y }) two long_two k _
    (mark-set n c.v0 (record { x = within.v0_x; y = within.v0_y }) one long_one k _
    (mark-set n c.apex (record { x = within.apex_x; y = within.apex_y }) marks long k
    (is_vertex n triangles p) (mark-at n triangles k below)))
    ∙ ap bit (join (is_vertex n triangles p) (is_same_point p c.apex) (is_same_point p c.v0) (is_same_point p c.v1)
    ∙ ap (λ d. is_vertex n triangles p || (has_corner d p || false)) is
    ∙ sym (list_any-append (λ b. has_corner (corners_of n b) p) triangles (a ∷ []))))
