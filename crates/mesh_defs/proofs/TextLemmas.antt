-- The vertices and the text of the two base triangles.
use Rattle.std.proofs.Common.{◌≡◌, ℕ, zero, suc, ◌+◌, ◌*◌, ◌^◌, ◌<◌, ◌≤◌, List, [], ◌∷◌, ◌++◌, map, filter, flat_map}
use Rattle.std.proofs.Common.{position, unwrap_or, Bool, true, false, cond, ◌&&◌, ◌||◌, eqb, refl, sym, ◌∙◌, ap, ap₂}
use Rattle.std.proofs.Common.{arith, true≢false, eq-eqb, ne_eqb, add-one, add-zero, append_assoc, append-nil, mul-zero}
use Rattle.std.proofs.Common.{pow_pos, Option, None, Some}
use Rattle.std.specs.List.{range_with_len, list_any}
use Rattle.std.proofs.lemmas.Bool.{false≢true, and_left, and_right, and_from}
use Rattle.std.proofs.lemmas.List.Elements.{filter-append}
use Rattle.std.proofs.lemmas.List.Concat.{flat_map_single}
use Rattle.mesh_defs.specs.declared.point.Point.{Point}
use Rattle.mesh_defs.specs.declared.mark.Mark.{Mark}
use Rattle.mesh_defs.specs.Triangle.{level_of, corners_of}
use Rattle.mesh_defs.specs.BoundingBox.{point, points_of}
use Rattle.mesh_defs.specs.Thickness.{height_of}
use Rattle.mesh_defs.specs.View.{ViewPlane}
use Rattle.mesh_defs.specs.MeshText.{has_corner, vertices_of, vertex_number, vertex_line, face_line, face_lines}
use Rattle.mesh_defs.specs.MeshText.{mesh_text, numbers_line, group_line, triangle_mark}

-- a list whose pieces are empty but for the first and the last

module _ {X : Type 0} (h : ℕ → List X) where
  -- pieces that are empty but for the last
  flat_map-last : (j a : ℕ) → ((k : ℕ) → a ≤ k → k < a + j → h k ≡ []) →
      flat_map h (range_with_len a (suc j)) ≡ h (a + j)
  flat_map-last zero a none = append-nil (h a) ∙ ap h (sym (add-zero a))
  flat_map-last (suc j) a none =
      ap₂ (λ (xs ys : List X). xs ++ ys) (none a (omega arith) (omega arith))
      (flat_map-last j (a + 1) (λ k low high. none k (omega arith) (omega arith)))
      ∙ ap h (omega arith)

  -- pieces that are empty but for the first and the last
  flat_map-ends : (m : ℕ) → 0 < m → ((k : ℕ) → 0 < k → k < m → h k ≡ []) →
      flat_map h (range_with_len 0 (m + 1)) ≡ h 0 ++ h m
  flat_map-ends zero big none = absurd (omega arith)
  flat_map-ends (suc j) big none =
      ap (λ len. flat_map h (range_with_len 0 len)) (add-one (suc j))
      ∙ ap (λ (ys : List X). h 0 ++ ys)
      (flat_map-last j (0 + 1) (λ k low high. none k (omega arith) (omega arith)) ∙ ap h (omega arith))

-- a filter goes into the pieces
filter-flat_map : (p : Point → Bool) (g : ℕ → List Point) (ks : List ℕ) →
    filter p (flat_map g ks) ≡ flat_map (λ k. filter p (g k)) ks
filter-flat_map p g [] = refl
filter-flat_map p g (k ∷ ks) =
    filter-append p (g k) (flat_map g ks) ∙ ap (λ ys. filter p (g k) ++ ys) (filter-flat_map p g ks)

-- the corners of the square, and no others, are corners of the two

-- by which sides of the square a point lies on: whether it is a corner of 2 or of 3
abbrev corner_test : Bool → Bool → Bool → Bool → Bool
corner_test left right low high =
    ((left && low) || ((right && low) || (left && high)))
    || (((right && high) || ((left && high) || (right && low))) || false)

-- a point on neither the lower nor the upper side is none
corner_test-no_row : (left right : Bool) → corner_test left right false false ≡ false
corner_test-no_row true true = refl
corner_test-no_row true false = refl
corner_test-no_row false true = refl
corner_test-no_row false false = refl

-- the four corners of the square are
corner_test-left_low : (right high : Bool) → corner_test true right true high ≡ true
corner_test-left_low right high = refl

corner_test-right_low : (left high : Bool) → corner_test left true true high ≡ true
corner_test-right_low true high = refl
corner_test-right_low false high = refl

corner_test-left_high : (right low : Bool) → corner_test true right low true ≡ true
corner_test-left_high true true = refl
corner_test-left_high true false = refl
corner_test-left_high false true = refl
corner_test-left_high false false = refl

corner_test-right_high : (left low : Bool) → corner_test left true low true ≡ true
corner_test-right_high true true = refl
corner_test-right_high true false = refl
corner_test-right_high false true = refl
corner_test-right_high false false = refl

abbrev is_vertex : ℕ → Point → Bool
is_vertex n p = list_any (λ a. has_corner (corners_of n a) p) (2 ∷ (3 ∷ []))

-- the test of a point is the test by sides
is_vertex-test : (n x y : ℕ) →
    is_vertex n (point x y) ≡ corner_test (eqb x 0) (eqb x (2 ^ n)) (eqb y 0) (eqb y (2 ^ n))
unfolding corners_of level_of
is_vertex-test n x y = refl

-- the point alone where it is a vertex
abbrev cell : ℕ → ℕ → ℕ → List Point
cell n y x = filter (is_vertex n) (point x y ∷ [])

-- the vertices of one row
abbrev row : ℕ → ℕ → List Point
row n y = flat_map (cell n y) (range_with_len 0 (2 ^ n + 1))

-- a vertex stays
cell-true : (n x y : ℕ) → is_vertex n (point x y) ≡ true → cell n y x ≡ point x y ∷ []
cell-true n x y h = ap (λ b. cond b (point x y ∷ []) []) h

-- another point goes
cell-false : (n x y : ℕ) → is_vertex n (point x y) ≡ false → cell n y x ≡ []
cell-false n x y h = ap (λ b. cond b (point x y ∷ []) []) h

-- no point between the left and the right side is a vertex
cell-between : (n x y : ℕ) → 0 < x → x < 2 ^ n → cell n y x ≡ []
cell-between n x y low high = cell-false n x y (is_vertex-test n x y
    ∙ ap₂ (λ left right. corner_test left right (eqb y 0) (eqb y (2 ^ n)))
    (ne_eqb x 0 (λ e. omega arith)) (ne_eqb x (2 ^ n) (λ e. omega arith)))

-- no point between the lower and the upper side is a vertex
cell-no_row : (n x y : ℕ) → 0 < y → y < 2 ^ n → cell n y x ≡ []
cell-no_row n x y low high = cell-false n x y (is_vertex-test n x y
    ∙ ap₂ (λ left right. corner_test (eqb x 0) (eqb x (2 ^ n)) left right)
    (ne_eqb y 0 (λ e. omega arith)) (ne_eqb y (2 ^ n) (λ e. omega arith))
    ∙ corner_test-no_row (eqb x 0) (eqb x (2 ^ n)))

-- a row is made of its two ends
row-ends : (n y : ℕ) → row n y ≡ cell n y 0 ++ cell n y (2 ^ n)
row-ends n y = flat_map-ends (cell n y) (2 ^ n) (pow_pos n) (λ x low high. cell-between n x y low high)

-- a row between the lower and the upper side has no vertex
row-between : (n y : ℕ) → 0 < y → y < 2 ^ n → row n y ≡ []
row-between n y low high = row-ends n y
    ∙ ap₂ (λ (xs ys : List Point). xs ++ ys) (cell-no_row n 0 y low high) (cell-no_row n (2 ^ n) y low high)

-- the lower side has two
row-low : (n : ℕ) → row n 0 ≡ point 0 0 ∷ (point (2 ^ n) 0 ∷ [])
row-low n = row-ends n 0 ∙ ap₂ (λ (xs ys : List Point). xs ++ ys)
    (cell-true n 0 0 (is_vertex-test n 0 0 ∙ corner_test-left_low (eqb 0 (2 ^ n)) (eqb 0 (2 ^ n))))
    (cell-true n (2 ^ n) 0 (is_vertex-test n (2 ^ n) 0
    ∙ ap (λ right. corner_test (eqb (2 ^ n) 0) right true (eqb 0 (2 ^ n))) (eq-eqb (2 ^ n) (2 ^ n) refl)
    ∙ corner_test-right_low (eqb (2 ^ n) 0) (eqb 0 (2 ^ n))))

-- the upper side has two
row-high : (n : ℕ) → row n (2 ^ n) ≡ point 0 (2 ^ n) ∷ (point (2 ^ n) (2 ^ n) ∷ [])
row-high n = row-ends n (2 ^ n) ∙ ap₂ (λ (xs ys : List Point). xs ++ ys)
    (cell-true n 0 (2 ^ n) (is_vertex-test n 0 (2 ^ n)
    ∙ ap (λ high. corner_test true (eqb 0 (2 ^ n)) (eqb (2 ^ n) 0) high) (eq-eqb (2 ^ n) (2 ^ n) refl)
    ∙ corner_test-left_high (eqb 0 (2 ^ n)) (eqb (2 ^ n) 0)))
    (cell-true n (2 ^ n) (2 ^ n) (is_vertex-test n (2 ^ n) (2 ^ n)
    ∙ ap (λ same. corner_test (eqb (2 ^ n) 0) same (eqb (2 ^ n) 0) same) (eq-eqb (2 ^ n) (2 ^ n) refl)
    ∙ corner_test-right_high (eqb (2 ^ n) 0) (eqb (2 ^ n) 0)))

-- a row is what the filter leaves of it
row-is : (n y : ℕ) →
    filter (is_vertex n) (map (λ x. point x y) (range_with_len 0 (2 ^ n + 1))) ≡ row n y
row-is n y =
    ap (filter (is_vertex n)) (sym (flat_map_single (λ x. point x y) (range_with_len 0 (2 ^ n + 1))))
    ∙ filter-flat_map (is_vertex n) (λ x. point x y ∷ []) (range_with_len 0 (2 ^ n + 1))

-- equal pieces make equal lists
flat_map-same : (g h : ℕ → List Point) → ((k : ℕ) → g k ≡ h k) → (ks : List ℕ) → flat_map g ks ≡ flat_map h ks
flat_map-same g h same [] = refl
flat_map-same g h same (k ∷ ks) = ap₂ (λ (xs ys : List Point). xs ++ ys) (same k) (flat_map-same g h same ks)

abbrev square_corners : ℕ → List Point
square_corners n = point 0 0 ∷ (point (2 ^ n) 0 ∷ (point 0 (2 ^ n) ∷ (point (2 ^ n) (2 ^ n) ∷ [])))

-- the vertices are the corners of the square, by y and then by x
pub base_vertices : (n : ℕ) → vertices_of n (2 ∷ (3 ∷ [])) ≡ square_corners n
unfolding vertices_of points_of
base_vertices n =
    filter-flat_map (is_vertex n) (λ y. map (λ x. point x y) (range_with_len 0 (2 ^ n + 1)))
    (range_with_len 0 (2 ^ n + 1))
    ∙ flat_map-same (λ y. filter (is_vertex n) (map (λ x. point x y) (range_with_len 0 (2 ^ n + 1)))) (row n)
    (row-is n) (range_with_len 0 (2 ^ n + 1))
    ∙ flat_map-ends (row n) (2 ^ n) (pow_pos n) (row-between n)
    ∙ ap₂ (λ (xs ys : List Point). xs ++ ys) (row-low n) (row-high n)

-- the numbers of the vertices, by which of the four is the same

abbrev number_by : Bool → Bool → Bool → Bool → ℕ
number_by b0 b1 b2 b3 = unwrap_or (position (λ b. b) (b0 ∷ (b1 ∷ (b2 ∷ (b3 ∷ []))))) 4 + 1

-- the second is the first that is the same
number_by-2 : (b0 b1 b2 b3 : Bool) → b0 ≡ false → b1 ≡ true → number_by b0 b1 b2 b3 ≡ 2
number_by-2 true b1 b2 b3 e f = absurd (true≢false e)
number_by-2 false true b2 b3 e f = refl
number_by-2 false false b2 b3 e f = absurd (false≢true f)

-- the third is
number_by-3 : (b0 b1 b2 b3 : Bool) → b0 ≡ false → b1 ≡ false → b2 ≡ true → number_by b0 b1 b2 b3 ≡ 3
number_by-3 true b1 b2 b3 e f g = absurd (true≢false e)
number_by-3 false true b2 b3 e f g = absurd (true≢false f)
number_by-3 false false true b3 e f g = refl
number_by-3 false false false b3 e f g = absurd (false≢true g)

-- the fourth is
number_by-4 : (b0 b1 b2 b3 : Bool) → b0 ≡ false → b1 ≡ false → b2 ≡ false → b3 ≡ true → number_by b0 b1 b2 b3 ≡ 4
number_by-4 true b1 b2 b3 e f g h = absurd (true≢false e)
number_by-4 false true b2 b3 e f g h = absurd (true≢false f)
number_by-4 false false true b3 e f g h = absurd (true≢false g)
number_by-4 false false false true e f g h = refl
number_by-4 false false false false e f g h = absurd (false≢true h)

module _ (n : ℕ) where
  -- 2 ^ n is not 0
  far : eqb (2 ^ n) 0 ≡ false
  far = ne_eqb (2 ^ n) 0 (λ e. let some : 0 < 2 ^ n = pow_pos n in omega arith)

  same : eqb (2 ^ n) (2 ^ n) ≡ true
  same = eq-eqb (2 ^ n) (2 ^ n) refl

  vertex_number-2 : vertex_number (square_corners n) (point (2 ^ n) 0) ≡ 2
  vertex_number-2 = number_by-2 (eqb (2 ^ n) 0 && eqb 0 0) (eqb (2 ^ n) (2 ^ n) && eqb 0 0)
      (eqb (2 ^ n) 0 && eqb 0 (2 ^ n)) (eqb (2 ^ n) (2 ^ n) && eqb 0 (2 ^ n))
      (and_left _ _ far) (and_from _ _ same refl)

  vertex_number-3 : vertex_number (square_corners n) (point 0 (2 ^ n)) ≡ 3
  vertex_number-3 = number_by-3 (eqb 0 0 && eqb (2 ^ n) 0) (eqb 0 (2 ^ n) && eqb (2 ^ n) 0)
      (eqb 0 0 && eqb (2 ^ n) (2 ^ n)) (eqb 0 (2 ^ n) && eqb (2 ^ n) (2 ^ n))
      far (and_right _ _ far) same

  vertex_number-4 : vertex_number (square_corners n) (point (2 ^ n) (2 ^ n)) ≡ 4
  vertex_number-4 = number_by-4 (eqb (2 ^ n) 0 && eqb (2 ^ n) 0) (eqb (2 ^ n) (2 ^ n) && eqb (2 ^ n) 0)
      (eqb (2 ^ n) 0 && eqb (2 ^ n) (2 ^ n)) (eqb (2 ^ n) (2 ^ n) && eqb (2 ^ n) (2 ^ n))
      (and_left _ _ far) (and_right _ _ far) (and_left _ _ far) (and_from _ _ same same)

  -- the face of 2
  face_line-2 : face_line (square_corners n) (corners_of n 2) ≡ numbers_line 102 1 2 3
  unfolding corners_of level_of
  face_line-2 = ap₂ (λ i j. numbers_line 102 1 i j) vertex_number-2 vertex_number-3

  -- the face of 3
  face_line-3 : face_line (square_corners n) (corners_of n 3) ≡ numbers_line 102 4 3 2
  unfolding corners_of level_of
  face_line-3 =
      ap (λ i. numbers_line 102 i (vertex_number (square_corners n) (point 0 (2 ^ n)))
      (vertex_number (square_corners n) (point (2 ^ n) 0))) vertex_number-4
      ∙ ap₂ (λ i j. numbers_line 102 4 i j) vertex_number-3 vertex_number-2

-- the text

-- the four vertex lines and the two face lines, one after the other
regroup : (a b c d e f : List ℕ) → (a ++ (b ++ (c ++ (d ++ [])))) ++ (e ++ (f ++ [])) ≡ a ++ b ++ c ++ d ++ e ++ f
regroup a b c d e f = simp (append_assoc, append-nil {A = ℕ})

module _ (n : ℕ) (heights : List ℕ) (spacing : ℕ) where
  -- a vertex line with these two coordinates
  abbrev height_line : ℕ → ℕ → Point → List ℕ
  height_line i j p = numbers_line 118 i j (height_of n heights p)

  -- the vertex lines of the square
  vertex_lines : flat_map (vertex_line n heights spacing) (square_corners n)
      ≡ height_line 0 0 (point 0 0) ++ (height_line (spacing * 2 ^ n) 0 (point (2 ^ n) 0)
      ++ (height_line 0 (spacing * 2 ^ n) (point 0 (2 ^ n))
      ++ (height_line (spacing * 2 ^ n) (spacing * 2 ^ n) (point (2 ^ n) (2 ^ n)) ++ [])))
  vertex_lines =
      ap (λ z. height_line z z (point 0 0) ++ (height_line (spacing * 2 ^ n) z (point (2 ^ n) 0)
      ++ (height_line z (spacing * 2 ^ n) (point 0 (2 ^ n))
      ++ (height_line (spacing * 2 ^ n) (spacing * 2 ^ n) (point (2 ^ n) (2 ^ n)) ++ []))))
      (mul-zero spacing)

-- with no plane in force there is no group line
group_line-bare : (planes : List ViewPlane) (before : Option Mark) (mark : Mark) → planes ≡ [] →
    group_line planes before mark ≡ []
group_line-bare planes before mark none = ap (λ l. group_line l before mark) none

-- so the faces are two face lines
face_lines-bare : (n : ℕ) (heights : List ℕ) (spacing : ℕ) (vertices : List Point) →
    face_lines n heights spacing [] vertices None (2 ∷ (3 ∷ []))
    ≡ face_line vertices (corners_of n 2) ++ (face_line vertices (corners_of n 3) ++ [])
face_lines-bare n heights spacing vertices =
    ap₂ (λ (before between : List ℕ). before ++ face_line vertices (corners_of n 2)
    ++ (between ++ face_line vertices (corners_of n 3) ++ []))
    (group_line-bare [] None (triangle_mark n heights spacing [] 2) refl)
    (group_line-bare [] (Some (triangle_mark n heights spacing [] 2)) (triangle_mark n heights spacing [] 3) refl)

-- the text of the two base triangles
pub base_text : (n : ℕ) (heights : List ℕ) (spacing : ℕ) →
    mesh_text n heights spacing [] (2 ∷ (3 ∷ []))
    ≡ numbers_line 118 0 0 (height_of n heights (point 0 0))
    ++ numbers_line 118 (spacing * 2 ^ n) 0 (height_of n heights (point (2 ^ n) 0))
    ++ numbers_line 118 0 (spacing * 2 ^ n) (height_of n heights (point 0 (2 ^ n)))
    ++ numbers_line 118 (spacing * 2 ^ n) (spacing * 2 ^ n) (height_of n heights (point (2 ^ n) (2 ^ n)))
    ++ numbers_line 102 1 2 3
    ++ numbers_line 102 4 3 2
unfolding mesh_text
base_text n heights spacing =
    ap (λ vertices. flat_map (vertex_line n heights spacing) vertices
    ++ face_lines n heights spacing [] vertices None (2 ∷ (3 ∷ [])))
    (base_vertices n)
    ∙ ap₂ (λ (xs ys : List ℕ). xs ++ ys) (vertex_lines n heights spacing)
    (face_lines-bare n heights spacing (square_corners n)
    ∙ ap₂ (λ (e f : List ℕ). e ++ (f ++ [])) (face_line-2 n) (face_line-3 n))
    ∙ regroup (numbers_line 118 0 0 (height_of n heights (point 0 0)))
    (numbers_line 118 (spacing * 2 ^ n) 0 (height_of n heights (point (2 ^ n) 0)))
    (numbers_line 118 0 (spacing * 2 ^ n) (height_of n heights (point 0 (2 ^ n))))
    (numbers_line 118 (spacing * 2 ^ n) (spacing * 2 ^ n)
    (height_of n heights (point (2 ^ n) (2 ^ n))))
    (numbers_line 102 1 2 3) (numbers_line 102 4 3 2)
