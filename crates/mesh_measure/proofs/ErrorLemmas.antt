-- The error of a triangle: how great it is by its gaps, and whether it is above a tolerance.
use Rattle.std.proofs.Common.{◌≡◌, ℕ, ◌-◌, ◌*◌, ◌^◌, ◌<◌, ◌≤◌, ◌↔◌, true, List, sym}
use Rattle.std.proofs.Common.{◌∙◌, ap, subst, arith, ⊎_elim}
use Rattle.std.proofs.Math.Nat.{le_of_mul-le-mul_left, mul-sub}
use Rattle.std.proofs.lemmas.Bool.{cases_lt}
use Rattle.mesh_defs.specs.declared.point.Point.{Point}
use Rattle.mesh_defs.specs.declared.point.Corners.{Corners}
use Rattle.mesh_defs.specs.Triangle.{IsAddress, corners_of}
use Rattle.mesh_defs.specs.Thickness.{height_of}
use Rattle.mesh_defs.specs.BoundingBox.{points_of, is_in_closed, holds_point, greatest}
use Rattle.mesh_defs.proofs.PointLemmas.{greatest-le}
use Rattle.bintree_laws.specs.Corners.{IsWithin}
use Rattle.bintree_laws.proofs.CornerLemmas.{IsWithin-corners_of}
use Rattle.fit_laws.specs.PlaneHeight.{area_of, off_plane, offs_in, excess_at, excesses_in}
use Rattle.fit_laws.proofs.PlaneLemmas.{area_of-some, held-le}
use Rattle.mesh_measure.specs.declared.shape.Bounds.{Bounds}
use Rattle.mesh_measure.specs.Facet.{AreBounds}
use Rattle.mesh_measure.specs.Most.{gap_beyond, IsMostUntil, IsInBounds}
use Rattle.mesh_measure.proofs.GapLemmas.{off_plane-gap}
use Rattle.mesh_measure.proofs.BoxLemmas.{IsInBounds-held, greatest-most}

-- ---- bounds

-- they lie in the grid
pub bounds-in_grid : (n a : ℕ) (c : Corners) (bounds : Bounds) → c ≡ corners_of n a → AreBounds c bounds →
    (bounds.right ≤ 2 ^ n) × (bounds.high ≤ 2 ^ n)
bounds-in_grid n a c bounds is b =
    let w : IsWithin (2 ^ n) c = subst (λ d. IsWithin (2 ^ n) d) (sym is) (IsWithin-corners_of n a) in
    let right = b.right in
    let high = b.high in (omega arith, omega arith)

-- ---- the error
-- the distance that was found says whether the error is above the tolerance
pub off-iff : (n : ℕ) (heights : List ℕ) (a tolerance most : ℕ) (c : Corners) (bounds : Bounds) → IsAddress n a →
    c ≡ corners_of n a → AreBounds c bounds →
    IsMostUntil (IsInBounds c bounds) (off_plane n heights a) tolerance most →
    (tolerance < most) ↔ (tolerance < greatest (offs_in n heights a))
off-iff n heights a tolerance most c bounds address is b h = (
  λ above. ⊎_elim
      (λ none. absurd (omega arith))
      (λ (s : (r : Point) × IsInBounds c bounds r × (off_plane n heights a r ≡ most)).
      let held : holds_point n a s.0 ≡ true = subst (λ d. is_in_closed d s.0 ≡ true) is s.1.held in
      let le = held-le (off_plane n heights a) n a s.0 address held in
      let same = s.2 in
      omega arith)
      h.reached,
  λ above. ⊎_elim
      (λ (less : tolerance < most). less)
      (λ (fits : most ≤ tolerance).
      let same = greatest-most n heights a c bounds most address is b record { bound = h.bound fits; reached = h.reached } in
      absurd (omega arith))
      (cases_lt tolerance most),
)

-- ---- the excess by the gaps

-- the excess at a point, times twice the area
excess-gap : (n : ℕ) (heights tolerances : List ℕ) (a : ℕ) (r : Point) → IsAddress n a →
    area_of (corners_of n a) * excess_at n heights tolerances a r
    ≡ gap_beyond (2 ^ n) (corners_of n a) (height_of n heights) (height_of n tolerances) r
excess-gap n heights tolerances a r address =
    let area : ℕ = area_of (corners_of n a) in
    mul-sub area (off_plane n heights a r) (height_of n tolerances r)
    ∙ ap (λ k. k - area * height_of n tolerances r) (off_plane-gap n heights a r address)

-- there is one exactly where a gap goes beyond a tolerance
pub excess-iff : (n : ℕ) (heights tolerances : List ℕ) (a most : ℕ) (c : Corners) (bounds : Bounds) → IsAddress n a →
    c ≡ corners_of n a → AreBounds c bounds →
    IsMostUntil (IsInBounds c bounds) (gap_beyond (2 ^ n) c (height_of n heights) (height_of n tolerances)) 0 most →
    (0 < most) ↔ (0 < greatest (excesses_in n heights tolerances a))
excess-iff n heights tolerances a most c bounds address is b h =
    let beyond : Corners → Point → ℕ = λ d. gap_beyond (2 ^ n) d (height_of n heights) (height_of n tolerances) in
    let some : 0 < area_of (corners_of n a) = area_of-some n a address in (
      λ above. ⊎_elim
          (λ none. absurd (omega arith))
          (λ (s : (r : Point) × IsInBounds c bounds r × (beyond c r ≡ most)).
          let e : ℕ = excess_at n heights tolerances a s.0 in
          let held : holds_point n a s.0 ≡ true = subst (λ d. is_in_closed d s.0 ≡ true) is s.1.held in
          let gap : area_of (corners_of n a) * e ≡ most =
          excess-gap n heights tolerances a s.0 address ∙ subst (λ d. beyond d s.0 ≡ most) is s.2 in
          let le = held-le (excess_at n heights tolerances a) n a s.0 address held in
          ⊎_elim
          (λ (more : 0 < e). omega arith)
          (λ (flat : e ≤ 0).
          let none : e ≡ 0 = omega arith in
          let zero : area_of (corners_of n a) * e ≡ area_of (corners_of n a) * 0 =
          ap (λ k. area_of (corners_of n a) * k) none in
          absurd (omega arith))
          (cases_lt 0 e))
          h.reached,
      λ above. ⊎_elim
          (λ (less : 0 < most). less)
          (λ (flat : most ≤ 0).
          let few = greatest-le 0 (excess_at n heights tolerances a) (holds_point n a)
          (λ r held.
          let e : ℕ = excess_at n heights tolerances a r in
          let inside : is_in_closed c r ≡ true = subst (λ d. is_in_closed d r ≡ true) (sym is) held in
          let bound : beyond c r ≤ most = h.bound flat r (IsInBounds-held n a c bounds r address is b inside) in
          let gap : area_of (corners_of n a) * e ≡ beyond c r =
          excess-gap n heights tolerances a r address ∙ ap (λ d. beyond d r) (sym is) in
          le_of_mul-le-mul_left {k = area_of (corners_of n a)} (omega arith) some) (points_of n) in
          absurd (omega arith))
          (cases_lt 0 most),
    )
