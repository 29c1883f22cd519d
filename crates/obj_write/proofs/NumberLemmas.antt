-- The numbers that are counted from marks are those of the vertices.
use Rattle.std.proofs.Common.{◌≡◌, ℕ, zero, suc, ◌+◌, ◌*◌, ◌^◌, ◌<◌, ◌≤◌, Bool, true, false, cond, ◌||◌, not, ltb, List}
use Rattle.std.proofs.Common.{[], ◌∷◌, ◌++◌, length, map, filter, get_or, position, unwrap_or, Some, None, refl, inl}
use Rattle.std.proofs.Common.{inr, sym, ◌∙◌, ap, ap₂, arith, append_assoc}
use Rattle.std.specs.List.{range_with_len, list_any, position_or_len}
use Rattle.std.proofs.lemmas.Bool.{or_parts, lt-ltb, cases_lt}
use Rattle.std.proofs.lemmas.List.{get_or-map, length-map, length_push}
use Rattle.std.proofs.lemmas.List.Folds.{list_any-append}
use Rattle.std.proofs.lemmas.List.FromFn.{get_or-map-range_with_len, length-map-range_with_len}
use Rattle.text_laws.proofs.TestLemmas.{by_bool}
use Rattle.mesh_defs.specs.declared.point.Point.{Point}
use Rattle.mesh_defs.specs.HeightField.{side_of}
use Rattle.mesh_defs.specs.BoundingBox.{point, points_of}
use Rattle.mesh_defs.specs.MeshText.{is_same_point, vertices_of, vertex_number}
use Rattle.obj_write.specs.Numbers.{number_at, numbers_of}
use Rattle.obj_write.specs.VertexMarks.{grid_place, place_point, is_vertex, vertex_marks, numbered, marked}
use Rattle.obj_write.proofs.PlaceLemmas.{points-placed, place-again, place-below, point-again}
use Rattle.mesh_defs.proofs.PointLemmas.{same_point-eq, eq-same_point}
use Rattle.bintree_laws.specs.Corners.{IsInSquare}

-- the first that passes stands behind those that do not
first-found : (p : Point → Bool) (vs : List Point) (q : Point) (more : List Point) →
    list_any p vs ≡ false → p q ≡ true →
    position_or_len p (vs ++ q ∷ more) ≡ length vs
first-found p [] q more none here = ap (λ b. cond (not b) (1 + position_or_len p more) 0) here
first-found p (v ∷ vs) q more none here =
    let both = or_parts (p v) (list_any p vs) none in
    let rest : 1 + position_or_len p (vs ++ q ∷ more) ≡ suc (length vs) =
    let e = first-found p vs q more both.1 here in omega arith in
    ap (λ b. cond (not b) (1 + position_or_len p (vs ++ q ∷ more)) 0) both.0 ∙ rest

length-middle : (vs : List Point) (q : Point) (more : List Point) → length vs < length (vs ++ q ∷ more)
length-middle [] q more = omega arith
length-middle (v ∷ vs) q more = let e = length-middle vs q more in omega arith

-- its number
number-here : (vs : List Point) (q : Point) (more : List Point) → list_any (is_same_point q) vs ≡ false →
    number_at (vs ++ q ∷ more) q ≡ suc (length vs)
number-here vs q more none =
    let all : List Point = vs ++ q ∷ more in
    let is = first-found (is_same_point q) vs q more none (eq-same_point q q refl) in
    let found : position (is_same_point q) all ≡ Some (length vs) =
    ap (λ i. cond (ltb i (length all)) (Some i) None) is
    ∙ ap (λ b. cond b (Some (length vs)) None) (lt-ltb (length vs) (length all) (length-middle vs q more)) in
    let some : list_any (is_same_point q) all ≡ true =
    list_any-append (is_same_point q) vs (q ∷ more)
    ∙ ap₂ (λ b c. b || (c || list_any (is_same_point q) more)) none (eq-same_point q q refl) in
    ap (λ b. cond b (vertex_number all q) 0) some
    ∙ ap (λ o. unwrap_or o (length all) + 1) found ∙ omega arith

module _ (n : ℕ) (passes : Point → Bool) where
  abbrev f : ℕ → Point
  f = place_point n

  abbrev bit : Point → ℕ
  bit p = cond (passes p) 1 0

  -- the vertices from a place on
  abbrev kept : ℕ → ℕ → List Point
  kept a m = filter passes (map f (range_with_len a m))

  -- the points stand before a place
  abbrev AreBefore : ℕ → List Point → Type 0
  AreBefore a [] = Unit {0}
  AreBefore a (v ∷ vs) = (grid_place n v < a) × AreBefore a vs

  -- points at different places differ
  apart : (j : ℕ) (q : Point) → (grid_place n q ≡ j → ⊥) → is_same_point (f j) q ≡ false
  apart j q differ = by_bool (is_same_point (f j) q)
      (λ e. absurd (differ (ap (grid_place n) (sym (same_point-eq (f j) q e)) ∙ place-again n j)))
      (λ e. e)

  -- no point before a place is the one there
  none-before : (a : ℕ) (vs : List Point) → AreBefore a vs → list_any (is_same_point (f a)) vs ≡ false
  none-before a [] low = refl
  none-before a (v ∷ vs) low =
      ap₂ (λ b c. b || c) (apart a v (λ e. let h = low.0 in omega arith)) (none-before a vs low.1)

  -- nor is one behind it
  none-behind : (a b m : ℕ) → a < b → list_any (is_same_point (f a)) (kept b m) ≡ false
  none-behind a b zero below = refl
  none-behind a b (suc m) below =
      let rest = none-behind a (b + 1) m (omega arith) in
      by_bool (passes (f b))
      (λ e. ap (λ t. list_any (is_same_point (f a)) (cond t (f b ∷ kept (b + 1) m) (kept (b + 1) m))) e
      ∙ ap₂ (λ s t. s || t) (apart a (f b) (λ same. let there = place-again n b in omega arith)) rest)
      (λ e. ap (λ t. list_any (is_same_point (f a)) (cond t (f b ∷ kept (b + 1) m) (kept (b + 1) m))) e ∙ rest)

  -- a point is one of the vertices where it passes
  pub any-kept : (k a m : ℕ) → a ≤ k → k < a + m → list_any (is_same_point (f k)) (kept a m) ≡ passes (f k)
  any-kept k a zero low high = absurd (omega arith)
  any-kept k a (suc m) low high =
      elim (cases_lt a k) [
        | inl less ↦
            let rest = any-kept k (a + 1) m (omega arith) (omega arith) in
            let other = apart k (f a) (λ same. let there = place-again n a in omega arith) in
            by_bool (passes (f a))
            (λ e. ap (λ t. list_any (is_same_point (f k)) (cond t (f a ∷ kept (a + 1) m) (kept (a + 1) m))) e
            ∙ ap (λ s. s || list_any (is_same_point (f k)) (kept (a + 1) m)) other ∙ rest)
            (λ e. ap (λ t. list_any (is_same_point (f k)) (cond t (f a ∷ kept (a + 1) m) (kept (a + 1) m))) e ∙ rest)
        | inr more ↦
            let here : a ≡ k = omega arith in
            by_bool (passes (f k))
            (λ e. ap (λ j. list_any (is_same_point (f k)) (kept j (suc m))) here
            ∙ ap (λ t. list_any (is_same_point (f k)) (cond t (f k ∷ kept (k + 1) m) (kept (k + 1) m))) e
            ∙ ap (λ s. s || list_any (is_same_point (f k)) (kept (k + 1) m)) (eq-same_point (f k) (f k) refl) ∙ sym e)
            (λ e. ap (λ j. list_any (is_same_point (f k)) (kept j (suc m))) here
            ∙ ap (λ t. list_any (is_same_point (f k)) (cond t (f k ∷ kept (k + 1) m) (kept (k + 1) m))) e
            ∙ none-behind k (k + 1) m (omega arith) ∙ sym e)
      ]

  All-push : (a : ℕ) (vs : List Point) → AreBefore a vs → AreBefore (a + 1) (vs ++ f a ∷ [])
  All-push a [] low = (let there = place-again n a in omega arith, tt)
  All-push a (v ∷ vs) low = (let h = low.0 in omega arith, All-push a vs low.1)

  All-later : (a : ℕ) (vs : List Point) → AreBefore a vs → AreBefore (a + 1) vs
  All-later a [] low = tt
  All-later a (v ∷ vs) low = (let h = low.0 in omega arith, All-later a vs low.1)

  -- with the vertices before a place, the numbers from there on
  numbers-from : (vs : List Point) (a m : ℕ) → AreBefore a vs →
      numbered (length vs) (map bit (map f (range_with_len a m)))
      ≡ map (number_at (vs ++ kept a m)) (map f (range_with_len a m))
  numbers-from vs a zero low = refl
  numbers-from vs a (suc m) low =
      let points : List Point = map f (range_with_len (a + 1) m) in
      by_bool (passes (f a))
      (λ e.
      let more : List Point = kept (a + 1) m in
      let joined : (vs ++ f a ∷ []) ++ more ≡ vs ++ f a ∷ more = append_assoc vs (f a ∷ []) more in
      let long : length (vs ++ f a ∷ []) ≡ suc (length vs) = let e = length_push vs (f a) in omega arith in
      let rest = numbers-from (vs ++ f a ∷ []) (a + 1) m (All-push a vs low) in
      ap (λ t. numbered (length vs) (cond t 1 0 ∷ map bit points)) e
      ∙ ap₂ (λ (i : ℕ) (is : List ℕ). i ∷ is)
      (sym (number-here vs (f a) more (none-before a vs low)))
      (ap (λ i. numbered i (map bit points)) (sym long) ∙ rest ∙ ap (λ all. map (number_at all) points) joined)
      ∙ sym (ap (λ t. map (number_at (vs ++ cond t (f a ∷ more) more)) (f a ∷ points)) e))
      (λ e.
      let more : List Point = kept (a + 1) m in
      let none : list_any (is_same_point (f a)) (vs ++ more) ≡ false =
      list_any-append (is_same_point (f a)) vs more
      ∙ ap₂ (λ s t. s || t) (none-before a vs low) (none-behind a (a + 1) m (omega arith)) in
      ap (λ t. numbered (length vs) (cond t 1 0 ∷ map bit points)) e
      ∙ ap₂ (λ (i : ℕ) (is : List ℕ). i ∷ is)
      (sym (ap (λ t. cond t (vertex_number (vs ++ more) (f a)) 0) none))
      (numbers-from vs (a + 1) m (All-later a vs low))
      ∙ sym (ap (λ t. map (number_at (vs ++ cond t (f a ∷ more) more)) (f a ∷ points)) e))

  -- as many as pass
  marked-kept : (a m : ℕ) → marked (map bit (map f (range_with_len a m))) ≡ length (kept a m)
  marked-kept a zero = refl
  marked-kept a (suc m) =
      let rest = marked-kept (a + 1) m in
      by_bool (passes (f a))
      (λ e. ap (λ t. marked (cond t 1 0 ∷ map bit (map f (range_with_len (a + 1) m)))) e
      ∙ ap suc rest
      ∙ sym (ap (λ t. length (cond t (f a ∷ kept (a + 1) m) (kept (a + 1) m))) e))
      (λ e. ap (λ t. marked (cond t 1 0 ∷ map bit (map f (range_with_len (a + 1) m)))) e
      ∙ rest
      ∙ sym (ap (λ t. length (cond t (f a ∷ kept (a + 1) m) (kept (a + 1) m))) e))

-- the vertices by their places
pub vertices-placed : (n : ℕ) (triangles : List ℕ) →
    vertices_of n triangles ≡ filter (is_vertex n triangles)
    (map (place_point n) (range_with_len 0 (side_of n * side_of n)))
unfolding vertices_of
vertices-placed n triangles = ap (filter (is_vertex n triangles)) (points-placed n)

-- numbering the marks gives the numbers
pub numbered-marks : (n : ℕ) (triangles : List ℕ) → numbered 0 (vertex_marks n triangles) ≡ numbers_of n triangles
unfolding vertex_marks numbers_of
numbered-marks n triangles =
    let size : ℕ = side_of n * side_of n in
    ap (λ ps. numbered 0 (map (λ p. cond (is_vertex n triangles p) 1 0) ps)) (points-placed n)
    ∙ numbers-from n (is_vertex n triangles) [] 0 size tt
    ∙ ap (λ vs. map (number_at vs) (map (place_point n) (range_with_len 0 size))) (sym (vertices-placed n triangles))
    ∙ ap (map (number_at (vertices_of n triangles))) (sym (points-placed n))

-- there are as many marks as vertices
pub marked-marks : (n : ℕ) (triangles : List ℕ) → marked (vertex_marks n triangles) ≡ length (vertices_of n triangles)
unfolding vertex_marks
marked-marks n triangles =
    ap (λ ps. marked (map (λ p. cond (is_vertex n triangles p) 1 0) ps)) (points-placed n)
    ∙ marked-kept n (is_vertex n triangles) 0 (side_of n * side_of n)
    ∙ ap length (sym (vertices-placed n triangles))

-- how many numbers there are
pub length-numbers : (n : ℕ) (triangles : List ℕ) → length (numbers_of n triangles) ≡ side_of n * side_of n
unfolding numbers_of
length-numbers n triangles =
    length-map (points_of n) (number_at (vertices_of n triangles))
    ∙ ap length (points-placed n) ∙ length-map-range_with_len (place_point n) 0 (side_of n * side_of n)

-- the number at a place
pub number-at-place : (n : ℕ) (triangles : List ℕ) (k : ℕ) → k < side_of n * side_of n →
    get_or (numbers_of n triangles) k 0
    ≡ cond (is_vertex n triangles (place_point n k)) (vertex_number (vertices_of n triangles) (place_point n k)) 0
unfolding numbers_of
number-at-place n triangles k below =
    let whole = points-placed n in
    let size : ℕ = side_of n * side_of n in
    let long : k < length (points_of n) =
    rw (ap length whole ∙ length-map-range_with_len (place_point n) 0 size) below in
    get_or-map (number_at (vertices_of n triangles)) (points_of n) k (point 0 0) 0 long
    ∙ ap (λ ps. number_at (vertices_of n triangles) (get_or ps k (point 0 0))) whole
    ∙ ap (number_at (vertices_of n triangles))
    (get_or-map-range_with_len (place_point n) 0 size k k (point 0 0) below (omega arith))
    ∙ ap (λ b. cond b (vertex_number (vertices_of n triangles) (place_point n k)) 0)
    (ap (λ vs. list_any (is_same_point (place_point n k)) vs) (vertices-placed n triangles)
    ∙ any-kept n (is_vertex n triangles) k 0 size (omega arith) (omega arith))

-- a place has a number exactly where a vertex is
module _ (n : ℕ) (triangles : List ℕ) (k : ℕ) (below : k < side_of n * side_of n) where
  pub no-vertex : get_or (numbers_of n triangles) k 0 ≡ 0 → is_vertex n triangles (place_point n k) ≡ false
  no-vertex zero_there =
      let vertices : List Point = vertices_of n triangles in
      by_bool (is_vertex n triangles (place_point n k))
      (λ e.
      let some : get_or (numbers_of n triangles) k 0 ≡ vertex_number vertices (place_point n k) =
      number-at-place n triangles k below ∙ ap (λ b. cond b (vertex_number vertices (place_point n k)) 0) e in
      absurd (omega arith))
      (λ e. e)

  pub some-vertex : (get_or (numbers_of n triangles) k 0 ≡ 0 → ⊥) → is_vertex n triangles (place_point n k) ≡ true
  some-vertex some_there =
      let vertices : List Point = vertices_of n triangles in
      by_bool (is_vertex n triangles (place_point n k))
      (λ e. e)
      (λ e. absurd (some_there (number-at-place n triangles k below
      ∙ ap (λ b. cond b (vertex_number vertices (place_point n k)) 0) e)))

-- the number at the place of a vertex
pub number-of-vertex : (n : ℕ) (triangles : List ℕ) (p : Point) → IsInSquare (2 ^ n) p →
    is_vertex n triangles p ≡ true →
    get_or (numbers_of n triangles) (grid_place n p) 0 ≡ vertex_number (vertices_of n triangles) p
number-of-vertex n triangles p within shown =
    let again = point-again n p within.x in
    let vertices : List Point = vertices_of n triangles in
    number-at-place n triangles (grid_place n p) (place-below n p within)
    ∙ ap (λ q. cond (is_vertex n triangles q) (vertex_number vertices q) 0) again
    ∙ ap (λ b. cond b (vertex_number vertices p) 0) shown
