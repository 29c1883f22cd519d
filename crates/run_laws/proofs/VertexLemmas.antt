-- The vertices of a conforming list, in any order of its triangles; and the grid points, each of which is a corner of
-- the square or the centre of a triangle that may be split.
use Rattle.std.proofs.Common.{◌≡◌, ◌⊎◌, inl, inr, ℕ, zero, suc, ◌+◌, ◌-◌, ◌*◌, ◌^◌, ◌<◌, ◌≤◌, true, eqb, eq-eqb}
use Rattle.std.proofs.Common.{count_by}
use Rattle.std.proofs.Common.{List, refl, sym, ◌∙◌, ap, subst, arith, ⊎_elim}
use Rattle.std.proofs.lemmas.Bool.{eqb-true, cases_lt}
use Rattle.std.proofs.lemmas.Nat.{pow_pos}
use Rattle.mesh_defs.specs.declared.point.Point.{Point}
use Rattle.mesh_defs.specs.declared.point.Corners.{Corners}
use Rattle.mesh_defs.specs.Triangle.{base_triangle, child, IsSplittable, corners_of, IsCorner}
use Rattle.mesh_defs.specs.Tiling.{IsConforming}
use Rattle.mesh_defs.specs.ClosedSet.{leaves_of}
use Rattle.mesh_defs.specs.MeshText.{has_corner}
use Rattle.mesh_defs.proofs.ListLemmas.{IsIn, Any-in, list_any-in, count-some, some-count}
use Rattle.mesh_defs.proofs.TestLemmas.{same_tests}
use Rattle.bintree_laws.specs.Corners.{HasEvenBase, IsInSquare}
use Rattle.bintree_laws.proofs.CornerLemmas.{corners_of-2, corners_of-3, corners_of-left, corners_of-right}
use Rattle.bintree_laws.proofs.LatticeLemmas.{HasEvenBase-corners_of}
use Rattle.bintree_laws.proofs.WeightLemmas.{IsMean}
use Rattle.mesh_laws.specs.Ancestors.{ancestors_of}
use Rattle.mesh_laws.proofs.ConverseLemmas.{IsClosed-ancestors_of, AreLeaves-ancestors_of}
use Rattle.mesh_laws.proofs.DescentLemmas.{IsDown, IsDown-left, IsDown-right, IsDown-2, IsDown-3, IsSplittable-down}
use Rattle.fit_laws.proofs.DescentLemmas.{IsOneCorner, IsMean-left, IsMean-right, finest-corner}
use Rattle.mesh_laws.specs.Vertex.{is_mesh_vertex, centre_of, IsSquareCorner}
use Rattle.mesh_laws.proofs.VertexLemmas.{centre-member, square-vertex}

-- lists

-- lists with the same entries have the same vertices
vertex-counts : (n : ℕ) (xs ys : List ℕ) (p : Point) →
    ((a : ℕ) → count_by (λ t. eqb t a) xs ≡ count_by (λ t. eqb t a) ys) →
    is_mesh_vertex n xs p ≡ true → is_mesh_vertex n ys p ≡ true
vertex-counts n xs ys p same is =
    let e = Any-in (λ a. has_corner (corners_of n a) p) xs is in
    let some = count-some (λ t. eqb t e.0) e.0 xs e.1 (eq-eqb e.0 e.0 refl) in
    let counts = same e.0 in
    let found = some-count (λ t. eqb t e.0) ys (omega arith) in
    list_any-in (λ a. has_corner (corners_of n a) p) ys e.0
    (subst (λ z. IsIn z ys) (eqb-true found.0 e.0 found.2) found.1) e.2

module _ (n : ℕ) (triangles : List ℕ) (conforming : IsConforming n triangles) where
  -- a conforming list has the vertices of the leaves of what lies above it
  vertex-leaves : (p : Point) → is_mesh_vertex n triangles p ≡ is_mesh_vertex n (leaves_of n (ancestors_of triangles)) p
  vertex-leaves p =
      let leaves : List ℕ = leaves_of n (ancestors_of triangles) in
      let counts = (AreLeaves-ancestors_of n triangles conforming).counts in
      same_tests (is_mesh_vertex n triangles p) (is_mesh_vertex n leaves p)
      (vertex-counts n triangles leaves p (λ c. sym (counts c)))
      (vertex-counts n leaves triangles p counts)

  -- the centre of a triangle is a vertex exactly where the triangle lies above an entry
  pub centre-above : (a : ℕ) → IsSplittable n a → is_mesh_vertex n triangles (centre_of n a) ≡ ancestors_of triangles a
  centre-above a s = vertex-leaves (centre_of n a)
      ∙ centre-member n (ancestors_of triangles) a (IsClosed-ancestors_of n triangles conforming) s

  -- the corners of the square are vertices
  pub square-above : (p : Point) → IsSquareCorner (2 ^ n) p → is_mesh_vertex n triangles p ≡ true
  square-above p corner = vertex-leaves p
      ∙ square-vertex n (ancestors_of triangles) p (IsClosed-ancestors_of n triangles conforming) corner

-- points

-- the point is the centre of a triangle that may be split
abbrev pub HasCentreAt : ℕ → Point → Type 0
HasCentreAt n p = (t : ℕ) × IsSplittable n t × (centre_of n t ≡ p)

one-corner : (c : Corners) (r : Point) (u v w : ℕ) → IsOneCorner c r u v w → IsCorner c r
one-corner c r u v w (inl e) = inl e.0
one-corner c r u v w (inr (inl e)) = inr (inl e.0)
one-corner c r u v w (inr (inr e)) = inr (inr e.0)

-- a point of a triangle is one of its corners, or the centre of it or of a triangle below it
centred-below : (n levels a total : ℕ) (r : Point) (u v w : ℕ) → 0 < total → IsDown n levels a →
    IsMean total (corners_of n a) r u v w → IsCorner (corners_of n a) r ⊎ HasCentreAt n r
centred-below n zero a total r u v w some d h =
    inl (one-corner (corners_of n a) r u v w (finest-corner n a total r u v w some d h))
centred-below n (suc levels) a total r u v w some d h =
    let c : Corners = corners_of n a in
    let s = IsSplittable-down n levels a d in
    let even : HasEvenBase c = HasEvenBase-corners_of n a s.coarse in
    ⊎_elim
    (λ less.
    ⊎_elim
    (right s)
    (λ found. inr found)
    (centred-below n levels (2 * a + 1) total r (2 * v) (w - v) u some (IsDown-right n levels a d)
    (subst (λ z. IsMean total z r (2 * v) (w - v) u) (sym (corners_of-right n a d.low))
    (IsMean-right total c r u v w (w - v) even (omega arith) h))))
    (λ least.
    ⊎_elim
    (left s)
    (λ found. inr found)
    (centred-below n levels (2 * a) total r (2 * w) u (v - w) some (IsDown-left n levels a d)
    (subst (λ z. IsMean total z r (2 * w) u (v - w)) (sym (corners_of-left n a d.low))
    (IsMean-left total c r u v w (v - w) even (omega arith) h))))
    (cases_lt v w)
  where
    of_child : IsSplittable n a → (i : ℕ) → IsCorner (child i (corners_of n a)) r →
        IsCorner (corners_of n a) r ⊎ HasCentreAt n r
    of_child s zero (inl e) = inr (a, s, sym e)
    of_child s zero (inr (inl e)) = inl (inl e)
    of_child s zero (inr (inr e)) = inl (inr (inl e))
    of_child s (suc i) (inl e) = inr (a, s, sym e)
    of_child s (suc i) (inr (inl e)) = inl (inr (inr e))
    of_child s (suc i) (inr (inr e)) = inl (inl e)

    right : IsSplittable n a → IsCorner (corners_of n (2 * a + 1)) r → IsCorner (corners_of n a) r ⊎ HasCentreAt n r
    right s corner = of_child s 1 (subst (λ z. IsCorner z r) (corners_of-right n a s.low) corner)

    left : IsSplittable n a → IsCorner (corners_of n (2 * a)) r → IsCorner (corners_of n a) r ⊎ HasCentreAt n r
    left s corner = of_child s 0 (subst (λ z. IsCorner z r) (corners_of-left n a s.low) corner)

-- the corners of the halves are those of the square
square-lower : (m : ℕ) (r : Point) → IsCorner (base_triangle m 0) r → IsSquareCorner m r
square-lower m r (inl e) = (inl (ap (λ (p : Point). p.x) e), inl (ap (λ (p : Point). p.y) e))
square-lower m r (inr (inl e)) = (inr (ap (λ (p : Point). p.x) e), inl (ap (λ (p : Point). p.y) e))
square-lower m r (inr (inr e)) = (inl (ap (λ (p : Point). p.x) e), inr (ap (λ (p : Point). p.y) e))

square-upper : (m : ℕ) (r : Point) → IsCorner (base_triangle m 1) r → IsSquareCorner m r
square-upper m r (inl e) = (inr (ap (λ (p : Point). p.x) e), inr (ap (λ (p : Point). p.y) e))
square-upper m r (inr (inl e)) = (inl (ap (λ (p : Point). p.x) e), inr (ap (λ (p : Point). p.y) e))
square-upper m r (inr (inr e)) = (inr (ap (λ (p : Point). p.x) e), inl (ap (λ (p : Point). p.y) e))

-- the point as a mean of the corners of the halves, in a square of side m
lower-mean : (m u x y : ℕ) → u + x + y ≡ m → IsMean m (base_triangle m 0) (record { x = x; y = y }) u x y
lower-mean m u x y sum = record { sum = sum; x = omega arith; y = omega arith }

upper-mean : (m u x y i j : ℕ) → i + x ≡ m → j + y ≡ m → u + m ≡ x + y →
    IsMean m (base_triangle m 1) (record { x = x; y = y }) u i j
upper-mean m u x y i j e f g =
    let one : u + j ≡ x = omega (arith, f, g) in
    let two : u + i ≡ y = omega (arith, e, g) in
    record {
      sum = omega (arith, e, f, g);
      x = omega (arith, ap (λ z. m * z) one);
      y = omega (arith, ap (λ z. m * z) two);
    }

module _ (n : ℕ) (r : Point) (inside : IsInSquare (2 ^ n) r) where
  grid-lower : r.x + r.y ≤ 2 ^ n → IsSquareCorner (2 ^ n) r ⊎ HasCentreAt n r
  grid-lower under =
      let u : ℕ = 2 ^ n - (r.x + r.y) in
      ⊎_elim
      (λ corner. inl (square-lower (2 ^ n) r (subst (λ z. IsCorner z r) (corners_of-2 n) corner)))
      (λ found. inr found)
      (centred-below n (2 * n) 2 (2 ^ n) r u r.x r.y (pow_pos n) (IsDown-2 n)
      (subst (λ z. IsMean (2 ^ n) z r u r.x r.y) (sym (corners_of-2 n))
      (lower-mean (2 ^ n) u r.x r.y (omega (arith, under)))))

  grid-upper : 2 ^ n ≤ r.x + r.y → IsSquareCorner (2 ^ n) r ⊎ HasCentreAt n r
  grid-upper over =
      let u : ℕ = r.x + r.y - 2 ^ n in
      let i : ℕ = 2 ^ n - r.x in
      let j : ℕ = 2 ^ n - r.y in
      ⊎_elim
      (λ corner. inl (square-upper (2 ^ n) r (subst (λ z. IsCorner z r) (corners_of-3 n) corner)))
      (λ found. inr found)
      (centred-below n (2 * n) 3 (2 ^ n) r u i j (pow_pos n) (IsDown-3 n)
      (subst (λ z. IsMean (2 ^ n) z r u i j) (sym (corners_of-3 n))
      (upper-mean (2 ^ n) u r.x r.y i j (omega (arith, inside.x)) (omega (arith, inside.y)) (omega (arith, over)))))

  -- each grid point is a corner of the square or the centre of a triangle
  pub grid-point : IsSquareCorner (2 ^ n) r ⊎ HasCentreAt n r
  grid-point = ⊎_elim
      (λ over. grid-upper (omega (arith, over)))
      (λ under. grid-lower (omega (arith, under)))
      (cases_lt (2 ^ n) (r.x + r.y))
