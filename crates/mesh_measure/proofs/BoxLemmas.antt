-- A held point lies in the rectangle around the corners, so a loop over its rows meets all held points.
use Rattle.std.proofs.Common.{◌≡◌, ℕ, ◌≤◌, true, List, sym, subst, arith, ⊎_elim}
use Rattle.mesh_defs.specs.declared.point.Point.{Point}
use Rattle.mesh_defs.specs.declared.point.Corners.{Corners}
use Rattle.mesh_defs.specs.Triangle.{IsAddress, corners_of}
use Rattle.mesh_defs.specs.BoundingBox.{points_of, is_in_closed, holds_point, greatest}
use Rattle.bintree_laws.specs.Areas.{IsInRectangle}
use Rattle.mesh_defs.proofs.PointLemmas.{greatest-le}
use Rattle.fit_laws.specs.PlaneHeight.{off_plane, offs_in}
use Rattle.mesh_measure.specs.declared.shape.Bounds.{Bounds}
use Rattle.mesh_measure.specs.Facet.{AreBounds}
use Rattle.mesh_measure.specs.Most.{IsMost, IsInBounds}
use Rattle.fit_laws.proofs.PlaneLemmas.{IsInRectangle-held, held-le}

-- a held point lies within the bounds of the corners
pub IsInBounds-held : (n a : ℕ) (c : Corners) (bounds : Bounds) (r : Point) → IsAddress n a →
    c ≡ corners_of n a → AreBounds c bounds →
    is_in_closed c r ≡ true → IsInBounds c bounds r
IsInBounds-held n a c bounds r address is b held =
    let box = subst (λ d. IsInRectangle d r) (sym is)
    (IsInRectangle-held n a r address (subst (λ d. is_in_closed d r ≡ true) is held)) in
    record {
      held = held;
      left = let k = box.left in let e = b.left in omega arith;
      right = let k = box.right in let e = b.right in omega arith;
      low = let k = box.bottom in let e = b.low in omega arith;
      high = let k = box.top in let e = b.high in omega arith;
    }

-- so the greatest value within the bounds is that over all held points
pub greatest-most : (n : ℕ) (heights : List ℕ) (a : ℕ) (c : Corners) (bounds : Bounds) (most : ℕ) →
    IsAddress n a → c ≡ corners_of n a →
    AreBounds c bounds → IsMost (IsInBounds c bounds) (off_plane n heights a) most →
    most ≡ greatest (offs_in n heights a)
greatest-most n heights a c bounds most address is b h =
    let f = off_plane n heights a in
    let above : greatest (offs_in n heights a) ≤ most = greatest-le most f (holds_point n a)
    (λ p held. h.bound p (IsInBounds-held n a c bounds p address is b
    (subst (λ d. is_in_closed d p ≡ true) (sym is) held))) (points_of n) in
    let below : most ≤ greatest (offs_in n heights a) = ⊎_elim
    (λ e. omega arith)
    (λ (s : (r : Point) × IsInBounds c bounds r × (f r ≡ most)).
    subst (λ k. k ≤ greatest (offs_in n heights a)) s.2
    (held-le f n a s.0 address (subst (λ d. is_in_closed d s.0 ≡ true) is s.1.held)))
    h.reached in
    omega arith
