-- The leaves of a closed set are conforming: a grid point inside an edge of a leaf would be the midpoint of a
-- base at or below it, and a corner of a leaf is a corner of the square or the midpoint of a member's base.
use Rattle.std.proofs.Common.{◌≡◌, ℕ, zero, suc, ◌+◌, ◌*◌, ◌/◌, ◌^◌, ◌<◌, ◌≤◌, ◌⊎◌, inl, inr, Bool, true, false, All}
use Rattle.std.proofs.Common.{IsTrue, refl, sym, ◌∙◌, ap, subst, arith, ⊎_elim}
use Rattle.std.proofs.lemmas.Bool.{both_ways}
use Rattle.std.proofs.lemmas.List.Elements.{All-contains, All-weaker}
use Rattle.mesh_defs.specs.declared.point.Point.{Point}
use Rattle.mesh_defs.specs.declared.point.Corners.{Corners}
use Rattle.mesh_defs.specs.Triangle.{level_of, base_triangle, IsAddress, IsSplittable, midpoint, child, corners_of}
use Rattle.mesh_defs.specs.Triangle.{IsCorner, IsEdge}
use Rattle.mesh_defs.specs.Tiling.{IsBetween, IsStrictlyBetween, IsConforming}
use Rattle.mesh_defs.specs.ClosedSet.{IsClosed, leaves_of}
use Rattle.bintree_laws.specs.Corners.{IsWithin}
use Rattle.bintree_laws.proofs.CornerLemmas.{corners_of-left, corners_of-right, IsWithin-corners_of}
use Rattle.bintree_laws.proofs.CentreLemmas.{same_centre}
use Rattle.mesh_laws.proofs.WayLemmas.{Way, IsInside-between, IsStrictlyBetween-inside, IsRun-first_half}
use Rattle.mesh_laws.proofs.WayLemmas.{IsRun-second_half, inside_halves, not_inside_one}
use Rattle.mesh_laws.proofs.TurnLemmas.{IsTurned, leg, IsAxis, three, six, IsRun-base, IsRun-short_base}
use Rattle.mesh_laws.proofs.TurnLemmas.{IsRun-right_leg}
use Rattle.mesh_laws.proofs.DescentLemmas.{IsDown, IsDown-left, IsDown-right, IsSplittable-down, IsAddress-down}
use Rattle.mesh_laws.proofs.DescentLemmas.{forked_of, finest_of, All-leaves_of, Tiles-leaves_of}

-- at and below a triangle

-- x is v or lies below it
pub data IsUnder (v : ℕ) : ℕ → Type 0 where
  self : IsUnder v v
  below : (x : ℕ) → 4 ≤ x → IsUnder v (x / 2) → IsUnder v x

-- at and below a triangle is at and below its parent
pub IsUnder-up : (v x : ℕ) → 4 ≤ v → IsUnder v x → IsUnder (v / 2) x
IsUnder-up v x big self = below v big self
IsUnder-up v x big (below y h u) = below y h (IsUnder-up v (y / 2) big u)

-- what lies below the left child lies below the triangle
pub IsUnder-left : (v x : ℕ) → 2 ≤ v → IsUnder (2 * v) x → IsUnder v x
IsUnder-left v x low u =
    let half : 2 * v / 2 ≡ v = omega arith in subst (λ w. IsUnder w x) half (IsUnder-up (2 * v) x (omega arith) u)

-- and so does what lies below the right child
pub IsUnder-right : (v x : ℕ) → 2 ≤ v → IsUnder (2 * v + 1) x → IsUnder v x
IsUnder-right v x low u =
    let half : (2 * v + 1) / 2 ≡ v = omega arith in
    subst (λ w. IsUnder w x) half (IsUnder-up (2 * v + 1) x (omega arith) u)

-- a set with each parent holds what lies above a member
pub member_above : (has : ℕ → Bool) → ((a : ℕ) → IsTrue (has a) → 4 ≤ a → IsTrue (has (a / 2))) →
    (v x : ℕ) → IsUnder v x → IsTrue (has x) → IsTrue (has v)
member_above has parent v x self is = is
member_above has parent v x (below y h u) is = member_above has parent v (y / 2) u (parent y is h)

-- midpoints

-- the midpoint of the base of a
abbrev pub middle : ℕ → ℕ → Point
middle n a = midpoint (corners_of n a).v0 (corners_of n a).v1

-- the same segment by other names of its ends
pub between_ends : (p q r s t : Point) → p ≡ s → q ≡ t → IsStrictlyBetween p q r → IsStrictlyBetween s t r
between_ends p q r s t e f b =
    subst (λ z. IsStrictlyBetween z t r) e (subst (λ z. IsStrictlyBetween p z r) f b)

-- a splittable triangle below v with this midpoint
abbrev pub HasCentre : ℕ → ℕ → Point → Type 0
HasCentre n v r = (x : ℕ) × IsSplittable n x × IsUnder v x × (middle n x ≡ r)

-- from the left child
from_left : (n v : ℕ) (r : Point) → 2 ≤ v → HasCentre n (2 * v) r → HasCentre n v r
from_left n v r low h = (h.0, h.1, IsUnder-left v h.0 low h.2, h.3)

-- from the right child
from_right : (n v : ℕ) (r : Point) → 2 ≤ v → HasCentre n (2 * v + 1) r → HasCentre n v r
from_right n v r low h = (h.0, h.1, IsUnder-right v h.0 low h.2, h.3)

-- a finest triangle has no grid point inside an edge
not_inside_finest : (w : Way) (c : Corners) (p q r : Point) → IsAxis w → IsTurned w 1 c → IsEdge c p q →
    IsStrictlyBetween p q r → ⊥
not_inside_finest w c p q r a t (inl e) b =
    not_inside_one w c.apex
    r (IsInside-between w 1 c.apex c.v0 r (omega arith) t.0 (between_ends p q r c.apex c.v0 e.0 e.1 b))
not_inside_finest w c p q r a t (inr (inl e)) b =
    not_inside_one (three w) c.v0 r
    (IsInside-between (three w) 1 c.v0 c.v1 r (omega arith) (IsRun-short_base w 1 c a t)
    (between_ends p q r c.v0 c.v1 e.0 e.1 b))
not_inside_finest w c p q r a t (inr (inr e)) b =
    not_inside_one (six w) c.v1 r
    (IsInside-between (six w) 1 c.v1 c.apex r (omega arith) (IsRun-right_leg w 1 c t)
    (between_ends p q r c.v1 c.apex e.0 e.1 b))

-- a point inside a base is its midpoint or inside one of its halves
base_halves : (w : Way) (k : ℕ) (c : Corners) (r : Point) → 0 < k → IsTurned w (leg w k) c →
    IsStrictlyBetween c.v0 c.v1 r →
    (midpoint c.v0 c.v1 ≡ r) ⊎ (IsStrictlyBetween c.v0 (midpoint c.v0 c.v1) r
    ⊎ IsStrictlyBetween (midpoint c.v0 c.v1) c.v1 r)
base_halves w k c r some t b =
    let base = IsRun-base w k c t in
    let first = IsRun-first_half (three w) k c.v0 c.v1 base in
    let second = IsRun-second_half (three w) k c.v0 c.v1 base in
    ⊎_elim
    (λ e. inl e)
    (λ halves. ⊎_elim
    (λ i. inr (inl (IsStrictlyBetween-inside (three w) k c.v0 (midpoint c.v0 c.v1) r first i)))
    (λ i. inr (inr (IsStrictlyBetween-inside (three w) k (midpoint c.v0 c.v1) c.v1 r second i)))
    halves)
    (inside_halves (three w) k c.v0 (midpoint c.v0 c.v1) c.v1 r first second
    (IsInside-between (three w) (2 * k) c.v0 c.v1 r (omega arith) base b))

-- a grid point inside an edge is the midpoint of a base at or below the triangle
pub point_on_edge : (n levels v : ℕ) (p q r : Point) → IsDown n levels v → IsEdge (corners_of n v) p q →
    IsStrictlyBetween p q r →
    HasCentre n v r
point_on_edge n zero v p q r d edge b =
    let f = finest_of n v d in absurd (not_inside_finest f.0 (corners_of n v) p q r f.1 f.2 edge b)
point_on_edge n (suc levels) v p q r d (inl e) b =
    from_left n v r d.low (point_on_edge n levels (2 * v) p q r (IsDown-left n levels v d)
    (subst (λ c. IsEdge c p q) (sym (corners_of-left n v d.low)) (inr (inl e))) b)
point_on_edge n (suc levels) v p q r d (inr (inr e)) b =
    from_right n v r d.low (point_on_edge n levels (2 * v + 1) p q r (IsDown-right n levels v d)
    (subst (λ c. IsEdge c p q) (sym (corners_of-right n v d.low)) (inr (inl e))) b)
point_on_edge n (suc levels) v p q r d (inr (inl e)) b =
    let f = forked_of n levels v d in
    let c : Corners = corners_of n v in
    ⊎_elim
    (λ same. (v, IsSplittable-down n levels v d, self, same))
    (λ halves. ⊎_elim
    (λ i. from_left n v r d.low (point_on_edge n levels (2 * v) c.v0 (midpoint c.v0 c.v1) r (IsDown-left n levels v d)
    (subst (λ k. IsEdge k c.v0 (midpoint c.v0 c.v1)) (sym (corners_of-left n v d.low)) (inr (inr (refl, refl)))) i))
    (λ i. from_right n v r d.low (point_on_edge n levels (2 * v + 1) (midpoint c.v0 c.v1) c.v1 r
    (IsDown-right n levels v d)
    (subst (λ k. IsEdge k (midpoint c.v0 c.v1) c.v1) (sym (corners_of-right n v d.low)) (inl (refl, refl))) i))
    halves)
    (base_halves f.0 f.1 (corners_of n v) r f.2 f.3
    (between_ends p q r (corners_of n v).v0 (corners_of n v).v1 e.0 e.1 b))

-- corners

-- 0 or m
abbrev IsEnd : ℕ → ℕ → Type 0
IsEnd m i = (i ≡ 0) ⊎ (i ≡ m)

-- a corner of the square of side m
abbrev pub IsSquareCorner : ℕ → Point → Type 0
IsSquareCorner m p = IsEnd m p.x × IsEnd m p.y

-- the corners of a base triangle are corners of the square
IsSquareCorner-base : (m side : ℕ) (p : Point) → IsCorner (base_triangle m side) p → IsSquareCorner m p
IsSquareCorner-base m zero p (inl e) = (inl (ap (λ r. r.x) e), inl (ap (λ r. r.y) e))
IsSquareCorner-base m zero p (inr (inl e)) = (inr (ap (λ r. r.x) e), inl (ap (λ r. r.y) e))
IsSquareCorner-base m zero p (inr (inr e)) = (inl (ap (λ r. r.x) e), inr (ap (λ r. r.y) e))
IsSquareCorner-base m (suc _) p (inl e) = (inr (ap (λ r. r.x) e), inr (ap (λ r. r.y) e))
IsSquareCorner-base m (suc _) p (inr (inl e)) = (inl (ap (λ r. r.x) e), inr (ap (λ r. r.y) e))
IsSquareCorner-base m (suc _) p (inr (inr e)) = (inr (ap (λ r. r.x) e), inl (ap (λ r. r.y) e))

-- the corners of 2 are corners of the square
pub IsSquareCorner-2 : (n : ℕ) (p : Point) → IsCorner (corners_of n 2) p → IsSquareCorner (2 ^ n) p
unfolding corners_of level_of
IsSquareCorner-2 n = IsSquareCorner-base (2 ^ n) zero

-- and so are those of 3
pub IsSquareCorner-3 : (n : ℕ) (p : Point) → IsCorner (corners_of n 3) p → IsSquareCorner (2 ^ n) p
unfolding corners_of level_of
IsSquareCorner-3 n = IsSquareCorner-base (2 ^ n) 1

-- the corners of a child are those of the triangle and the midpoint of its base
pub corner_of_left : (c : Corners) (p : Point) → IsCorner (child 0 c) p → (midpoint c.v0 c.v1 ≡ p) ⊎ IsCorner c p
corner_of_left c p (inl e) = inl (sym e)
corner_of_left c p (inr (inl e)) = inr (inl e)
corner_of_left c p (inr (inr e)) = inr (inr (inl e))

-- the same for the right child
pub corner_of_right : (c : Corners) (p : Point) → IsCorner (child 1 c) p → (midpoint c.v0 c.v1 ≡ p) ⊎ IsCorner c p
corner_of_right c p (inl e) = inl (sym e)
corner_of_right c p (inr (inl e)) = inr (inr (inr e))
corner_of_right c p (inr (inr e)) = inr (inl e)

-- the ends of an edge lie in the square
ends_within : (m : ℕ) (c : Corners) (p q : Point) → IsWithin m c → IsEdge c p q →
    (p.x ≤ m) × (p.y ≤ m) × (q.x ≤ m) × (q.y ≤ m)
ends_within m c p q w e =
    let ax = w.apex_x in
    let ay = w.apex_y in
    let px = w.v0_x in
    let py = w.v0_y in
    let qx = w.v1_x in
    let qy = w.v1_y in
    within_at e ax ay px py qx qy
  where
    at : (s t : Point) → p ≡ s → q ≡ t → s.x ≤ m → s.y ≤ m → t.x ≤ m → t.y ≤ m →
        (p.x ≤ m) × (p.y ≤ m) × (q.x ≤ m) × (q.y ≤ m)
    at s t f g sx sy tx ty =
        let fx = ap (λ (z : Point). z.x) f in let fy = ap (λ (z : Point). z.y) f in
        let gx = ap (λ (z : Point). z.x) g in let gy = ap (λ (z : Point). z.y) g in
        (omega arith, omega arith, omega arith, omega arith)

    within_at : IsEdge c p q → c.apex.x ≤ m → c.apex.y ≤ m → c.v0.x ≤ m → c.v0.y ≤ m → c.v1.x ≤ m → c.v1.y ≤ m →
        (p.x ≤ m) × (p.y ≤ m) × (q.x ≤ m) × (q.y ≤ m)
    within_at (inl f) ax ay px py qx qy = at c.apex c.v0 f.0 f.1 ax ay px py
    within_at (inr (inl f)) ax ay px py qx qy = at c.v0 c.v1 f.0 f.1 px py qx qy
    within_at (inr (inr f)) ax ay px py qx qy = at c.v1 c.apex f.0 f.1 qx qy ax ay

-- no number between two of 0 to m is 0 or m
not_end : (m i j k : ℕ) → i ≤ m → j ≤ m → IsEnd m k → IsBetween i j k → ⊥
not_end m i j k hi hj (inl e) (inl h) = omega arith
not_end m i j k hi hj (inl e) (inr h) = omega arith
not_end m i j k hi hj (inr e) (inl h) = omega arith
not_end m i j k hi hj (inr e) (inr h) = omega arith

-- so no corner of the square lies inside an edge
pub corner_not_inside : (n v : ℕ) (p q r : Point) → IsEdge (corners_of n v) p q → IsStrictlyBetween p q r →
    IsSquareCorner (2 ^ n) r → ⊥
corner_not_inside n v p q r edge b corner =
    let w = ends_within (2 ^ n) (corners_of n v) p q (IsWithin-corners_of n v) edge in
    ⊎_elim
    (not_end (2 ^ n) p.x q.x r.x w.0 w.2 corner.0)
    (not_end (2 ^ n) p.y q.y r.y w.1 w.3 corner.1)
    b.between

-- the leaves of a closed set

-- each corner is a corner of the square or the midpoint of a member's base
abbrev HasKnownCorners : ℕ → (ℕ → Bool) → ℕ → Type 0
HasKnownCorners n has a =
    (p : Point) → IsCorner (corners_of n a) p → IsSquareCorner (2 ^ n) p ⊎ ((y : ℕ) × IsTrue (has y) × (middle n y ≡ p))

-- what is known of a leaf
pub record IsLeaf (n : ℕ) (has : ℕ → Bool) (a : ℕ) : Type 0 where
  pub levels : ℕ
  pub down : IsDown n levels a
  pub ends : (levels ≡ 0) ⊎ (has a ≡ false)
  pub corners : HasKnownCorners n has a

-- from members to children
known_corners_down : (n : ℕ) (has : ℕ → Bool) (levels a : ℕ) → IsDown n (suc levels) a → has a ≡ true →
    HasKnownCorners n has a → HasKnownCorners n has (2 * a) × HasKnownCorners n has (2 * a + 1)
known_corners_down n has levels a d member known = (
  (λ p corner. ⊎_elim
      (λ same. inr (a, member, same))
      (known p)
      (corner_of_left (corners_of n a) p (subst (λ c. IsCorner c p) (corners_of-left n a d.low) corner))),
  (λ p corner. ⊎_elim
      (λ same. inr (a, member, same))
      (known p)
      (corner_of_right (corners_of n a) p (subst (λ c. IsCorner c p) (corners_of-right n a d.low) corner))),
)

-- each entry is a leaf
pub IsLeaf-leaves_of : (n : ℕ) (has : ℕ → Bool) → All (IsLeaf n has) (leaves_of n has)
IsLeaf-leaves_of n has =
    All-leaves_of n has (HasKnownCorners n has) (IsLeaf n has)
    (known_corners_down n has)
    (λ levels a d ends known. record { levels = levels; down = d; ends = ends; corners = known })
    (λ p corner. inl (IsSquareCorner-2 n p corner))
    (λ p corner. inl (IsSquareCorner-3 n p corner))

-- a leaf of a closed set is no member
pub not_member : (n : ℕ) (has : ℕ → Bool) (a : ℕ) → IsClosed n has → IsLeaf n has a → IsTrue (has a) → ⊥
not_member n has a closed leaf is = ⊎_elim
    (λ none. let h = (closed.splittable a is).coarse in let l = leaf.down.height in omega arith)
    (λ other. both_ways (has a) other is)
    leaf.ends

-- two splittable triangles with one midpoint are both members or neither is
pub same_middle : (n : ℕ) (has : ℕ → Bool) (x y : ℕ) → IsClosed n has → IsSplittable n x → IsTrue (has y) →
    middle n y ≡ middle n x → IsTrue (has x)
same_middle n has x y closed s is e = ⊎_elim
    (λ same. subst (λ z. IsTrue (has z)) (sym same) is)
    (λ mate. closed.mate y x is mate)
    (same_centre n y x (closed.splittable y is) s e)

-- no corner lies inside an edge
whole_edges : (n : ℕ) (has : ℕ → Bool) → IsClosed n has → (a b : ℕ) (p q r : Point) → IsLeaf n has a → IsLeaf n has b →
    IsCorner (corners_of n a) r → IsEdge (corners_of n b) p q → IsStrictlyBetween p q r → ⊥
whole_edges n has closed a b p q r leaf other corner edge h =
    let x = point_on_edge n other.levels b p q r other.down edge h in
    ⊎_elim
    (λ square. corner_not_inside n b p q r edge h square)
    (λ (y : (y : ℕ) × IsTrue (has y) × (middle n y ≡ r)). not_member n has b closed other
    (member_above has closed.parent b x.0 x.2 (same_middle n has x.0 y.0 closed x.1 y.1 (y.2 ∙ sym x.3))))
    (leaf.corners r corner)

-- the leaves of a closed set are conforming
pub IsConforming-leaves_of : (n : ℕ) (has : ℕ → Bool) → IsClosed n has → IsConforming n (leaves_of n has)
IsConforming-leaves_of n has closed =
    let leaves : All (IsLeaf n has) (leaves_of n has) = IsLeaf-leaves_of n has in
    record {
      addresses = All-weaker (IsLeaf n has) (IsAddress n) (λ a leaf. IsAddress-down n leaf.levels a leaf.down)
          (leaves_of n has) leaves;
      tiles = Tiles-leaves_of n has;
      whole_edges = λ a b p q r in_a in_b. whole_edges n has closed a b p q r
          (All-contains (IsLeaf n has) (leaves_of n has) a leaves in_a)
          (All-contains (IsLeaf n has) (leaves_of n has) b leaves in_b);
    }
