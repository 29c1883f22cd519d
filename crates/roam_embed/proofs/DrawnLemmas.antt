-- The positions of a mesh, read at the places of its triangles, are those of the triangles' corners.
use Rattle.std.proofs.Common.{◌≡◌, ℕ, zero, suc, ◌+◌, ◌-◌, ◌*◌, ◌^◌, ◌<◌, Bool, true, false, cond, not, ◌||◌, List, []}
use Rattle.std.proofs.Common.{◌∷◌, ◌++◌, length, take, drop, get_or, filter, flat_map, position, unwrap_or, Option}
use Rattle.std.proofs.Common.{Some, None, All, refl, sym, ⊎_elim, ◌∙◌, ap, arith}
use Rattle.std.specs.List.{list_any, position_or_len}
use Rattle.std.proofs.Math.Bool.{or-true}
use Rattle.std.proofs.Math.Seq.{take-append_seam}
use Rattle.std.proofs.lemmas.Bool.{lt-ltb, false≢true}
use Rattle.std.proofs.lemmas.List.Elements.{All-nil, All-cons, All-head, All-tail, All-weaker}
use Rattle.mesh_defs.specs.declared.point.Point.{Point}
use Rattle.mesh_defs.specs.declared.point.Corners.{Corners}
use Rattle.mesh_defs.specs.Triangle.{corners_of}
use Rattle.mesh_defs.specs.BoundingBox.{points_of}
use Rattle.mesh_defs.specs.MeshText.{is_same_point, has_corner, vertices_of}
use Rattle.mesh_defs.proofs.PointLemmas.{IsPointIn, IsPointIn-points_of, same_point-eq, eq-same_point}
use Rattle.bintree_laws.specs.Corners.{IsWithin}
use Rattle.bintree_laws.proofs.CornerLemmas.{IsWithin-corners_of}
use Rattle.obj_write.specs.VertexMarks.{is_vertex}
use Rattle.obj_write.specs.MeshView.{IsShown}
use Rattle.obj_write.specs.Arrays.{position_of, positions_of, vertex_place, places_at, places_of}
use Rattle.roam_embed.specs.Drawn.{drawn, corner_positions}

-- ---- the place of a vertex

-- the first entry that passes
abbrev IsFirstFound : (Point → Bool) → List Point → Point → Type 0
IsFirstFound t vs d = (position_or_len t vs < length vs) × (t (get_or vs (position_or_len t vs) d) ≡ true)

found-step : (t : Point → Bool) (v : Point) (vs : List Point) (d : Point) (b : Bool) → t v ≡ b →
    (list_any t vs ≡ true → IsFirstFound t vs d) → (b || list_any t vs) ≡ true →
    (cond (not b) (1 + position_or_len t vs) 0 < length (v ∷ vs))
    × (t (get_or (v ∷ vs) (cond (not b) (1 + position_or_len t vs) 0) d) ≡ true)
found-step t v vs d true is rest some = (omega arith, is)
found-step t v vs d false is rest some =
    let found : IsFirstFound t vs d = rest some in
    let below = found.0 in
    let next : 1 + position_or_len t vs ≡ suc (position_or_len t vs) = omega arith in
    (omega arith, ap (λ j. t (get_or (v ∷ vs) j d)) next ∙ found.1)

found : (t : Point → Bool) (vs : List Point) (d : Point) → list_any t vs ≡ true → IsFirstFound t vs d
found t [] d some = absurd (false≢true some)
found t (v ∷ vs) d some = found-step t v vs d (t v) refl (λ rest. found t vs d rest) some

-- it is that of the first equal point
place-found : (vs : List Point) (p : Point) → list_any (is_same_point p) vs ≡ true →
    vertex_place vs p ≡ position_or_len (is_same_point p) vs
place-found vs p some =
    let k : ℕ = position_or_len (is_same_point p) vs in
    let below = (found (is_same_point p) vs p some).0 in
    let is : position (is_same_point p) vs ≡ Some k =
    ap (λ b. cond b (Some k) None) (lt-ltb k (length vs) below) in
    ap (λ (o : Option ℕ). unwrap_or o (length vs) + 1 - 1) is ∙ omega arith

-- ---- the corners are vertices

kept-step : (t : Point → Bool) (p v : Point) (vs : List Point) → t p ≡ true → (b : Bool) →
    t v ≡ b → IsPointIn p (v ∷ vs) →
    (IsPointIn p vs → list_any (is_same_point p) (filter t vs) ≡ true) →
    list_any (is_same_point p) (cond b (v ∷ filter t vs) (filter t vs)) ≡ true
kept-step t p v vs passes true is there rest =
    ⊎_elim {C = (is_same_point p v || list_any (is_same_point p) (filter t vs)) ≡ true}
    (λ e. ap (λ c. c || list_any (is_same_point p) (filter t vs)) (eq-same_point p v e))
    (λ later. ap (λ c. is_same_point p v || c) (rest later) ∙ or-true (is_same_point p v))
    there
kept-step t p v vs passes false is there rest =
    ⊎_elim {C = list_any (is_same_point p) (filter t vs) ≡ true}
    (λ e. absurd (false≢true (sym is ∙ ap t (sym e) ∙ passes)))
    (λ later. rest later)
    there

-- a point that passes stays
kept : (t : Point → Bool) (p : Point) → t p ≡ true → (vs : List Point) → IsPointIn p vs →
    list_any (is_same_point p) (filter t vs) ≡ true
kept t p passes [] there = absurd there
kept t p passes (v ∷ vs) there = kept-step t p v vs passes (t v) refl there (λ later. kept t p passes vs later)

-- each corner of a triangle is one of the points
record AreAmong (vs : List Point) (c : Corners) : Type 0 where
  apex_in : list_any (is_same_point c.apex) vs ≡ true
  v0_in : list_any (is_same_point c.v0) vs ≡ true
  v1_in : list_any (is_same_point c.v1) vs ≡ true

-- the corners of each triangle are corners of some
shown-all : (n : ℕ) (triangles : List ℕ) → All (IsShown n triangles) triangles
shown-all n [] = All-nil (IsShown n [])
shown-all n (a ∷ triangles) =
    All-cons (IsShown n (a ∷ triangles)) a triangles
    (λ p has. ap (λ b. b || is_vertex n triangles p) has)
    (All-weaker (IsShown n triangles) (IsShown n (a ∷ triangles))
    (λ b shown p has. ap (λ c. has_corner (corners_of n a) p || c) (shown p has)
    ∙ or-true (has_corner (corners_of n a) p))
    triangles (shown-all n triangles))

-- so they are vertices
among-shown : (n : ℕ) (triangles : List ℕ) (a : ℕ) → IsShown n triangles a →
    AreAmong (vertices_of n triangles) (corners_of n a)
unfolding vertices_of
among-shown n triangles a shown =
    let c : Corners = corners_of n a in
    let w : IsWithin (2 ^ n) c = IsWithin-corners_of n a in
    let apex_is : has_corner c c.apex ≡ true =
    ap (λ b. b || (is_same_point c.apex c.v0 || is_same_point c.apex c.v1)) (eq-same_point c.apex c.apex refl) in
    let v0_is : has_corner c c.v0 ≡ true =
    ap (λ b. is_same_point c.v0 c.apex || (b || is_same_point c.v0 c.v1)) (eq-same_point c.v0 c.v0 refl)
    ∙ or-true (is_same_point c.v0 c.apex) in
    let v1_is : has_corner c c.v1 ≡ true =
    ap (λ b. is_same_point c.v1 c.apex || (is_same_point c.v1 c.v0 || b)) (eq-same_point c.v1 c.v1 refl)
    ∙ ap (λ b. is_same_point c.v1 c.apex || b) (or-true (is_same_point c.v1 c.v0))
    ∙ or-true (is_same_point c.v1 c.apex) in
    record {
      apex_in = kept (is_vertex n triangles) c.apex (shown c.apex apex_is) (points_of n)
          (IsPointIn-points_of n c.apex w.apex_x w.apex_y);
      v0_in =
          kept (is_vertex n triangles) c.v0 (shown c.v0 v0_is) (points_of n) (IsPointIn-points_of n c.v0 w.v0_x w.v0_y);
      v1_in =
          kept (is_vertex n triangles) c.v1 (shown c.v1 v1_is) (points_of n) (IsPointIn-points_of n c.v1 w.v1_x w.v1_y);
    }

-- ---- what is drawn

length-some : (n : ℕ) (vs : List Point) (some : List ℕ) →
    length (flat_map (λ a. places_at vs (corners_of n a)) some) ≡ 3 * length some
length-some n vs [] = refl
length-some n vs (a ∷ some) = omega (arith, length-some n vs some)

-- each triangle has three places
length-places_of : (n : ℕ) (triangles : List ℕ) → length (places_of n triangles) ≡ 3 * length triangles
length-places_of n triangles = length-some n (vertices_of n triangles) triangles

module _ (n : ℕ) (heights : List ℕ) (spacing : ℕ) where
  abbrev position_at : Point → List ℕ
  position_at p = position_of n heights spacing p

  -- the three numbers of a place
  three-at : (vs : List Point) (i : ℕ) (d : Point) → i < length vs →
      take 3 (drop (3 * i) (flat_map position_at vs)) ≡ position_at (get_or vs i d)
  three-at [] i d below = absurd (omega arith)
  three-at (v ∷ vs) zero d below = refl
  three-at (v ∷ vs) (suc i) d below =
      let three : 3 * suc i ≡ suc (suc (suc (3 * i))) = omega arith in
      ap (λ k. take 3 (drop k (flat_map position_at (v ∷ vs)))) three ∙ three-at vs i d (omega arith)

  -- at the place of a vertex stands its position
  vertex-drawn : (vs : List Point) (p : Point) → list_any (is_same_point p) vs ≡ true →
      take 3 (drop (3 * vertex_place vs p) (flat_map position_at vs)) ≡ position_at p
  vertex-drawn vs p some =
      let k : ℕ = position_or_len (is_same_point p) vs in
      let here : IsFirstFound (is_same_point p) vs p = found (is_same_point p) vs p some in
      ap (λ j. take 3 (drop (3 * j) (flat_map position_at vs))) (place-found vs p some)
      ∙ three-at vs k p here.0
      ∙ ap position_at (sym (same_point-eq p (get_or vs k p) here.1))

  -- of some triangles whose corners are vertices
  some-drawn : (vs : List Point) (some : List ℕ) → All (λ a. AreAmong vs (corners_of n a)) some →
      drawn (flat_map position_at vs) (flat_map (λ a. places_at vs (corners_of n a)) some)
      ≡ flat_map (corner_positions n heights spacing) some
  some-drawn vs [] among = refl
  some-drawn vs (a ∷ some) among =
      let c : Corners = corners_of n a in
      let here : AreAmong vs c = All-head (λ b. AreAmong vs (corners_of n b)) a some among in
      let apex = vertex-drawn vs c.apex here.apex_in in
      let v0 = vertex-drawn vs c.v0 here.v0_in in
      let v1 = vertex-drawn vs c.v1 here.v1_in in
      let others = some-drawn vs some (All-tail (λ b. AreAmong vs (corners_of n b)) a some among) in
      λ i. apex i ++ (v0 i ++ (v1 i ++ others i))

  -- of all triangles
  pub all-drawn : (triangles : List ℕ) →
      drawn (positions_of n heights spacing triangles) (places_of n triangles)
      ≡ flat_map (corner_positions n heights spacing) triangles
  all-drawn triangles =
      some-drawn (vertices_of n triangles) triangles
      (All-weaker (IsShown n triangles) (λ a. AreAmong (vertices_of n triangles) (corners_of n a))
      (among-shown n triangles)
      triangles (shown-all n triangles))

-- and so it is of the first places of an array
pub told_drawn : (n : ℕ) (heights : List ℕ) (spacing : ℕ) (triangles before array : List ℕ) →
    array ≡ places_of n triangles ++ drop (3 * length triangles) before →
    drawn (positions_of n heights spacing triangles) (take (3 * length triangles) array)
    ≡ flat_map (corner_positions n heights spacing) triangles
told_drawn n heights spacing triangles before array written =
    let rest : List ℕ = drop (3 * length triangles) before in
    let front : take (3 * length triangles) array ≡ places_of n triangles =
    ap (take (3 * length triangles)) written
    ∙ ap (λ k. take k (places_of n triangles ++ rest)) (sym (length-places_of n triangles))
    ∙ take-append_seam (places_of n triangles) rest in
    ap (drawn (positions_of n heights spacing triangles)) front ∙ all-drawn n heights spacing triangles
