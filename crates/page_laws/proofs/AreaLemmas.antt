-- The square of a page, and the triangles whose bounding rectangles do not meet it: they stay as known as they were.
use Rattle.std.proofs.Common.{◌≡◌, ℕ, zero, suc, ◌+◌, ◌*◌, ◌/◌, ◌^◌, ◌<◌, ◌≤◌, inl, inr, refl, sym}
use Rattle.std.proofs.Common.{◌∙◌, ap, ap₂, subst, arith, ⊎_elim, Bool, true, false, ◌&&◌, ◌||◌, nat_eq}
use Rattle.std.proofs.Math.Nat.{mul-le-mul_left}
use Rattle.std.proofs.lemmas.Bool.{cases_lt, both_ways, eq-eqb}
use Rattle.std.proofs.lemmas.Nat.{pow-add}
use Rattle.mesh_defs.specs.declared.point.Point.{Point}
use Rattle.mesh_defs.specs.declared.point.Corners.{Corners}
use Rattle.mesh_defs.specs.Triangle.{level_of, corners_of, child, IsCorner, SameEnds}
use Rattle.mesh_defs.specs.State.{Area}
use Rattle.bintree_laws.specs.Areas.{overlaps, IsInRectangle}
use Rattle.bintree_laws.proofs.AreaLemmas.{AreCrossing, read-overlaps, made-overlaps, meets-overlaps, IsBetweenEnds}
use Rattle.bintree_laws.proofs.AreaLemmas.{made-area}
use Rattle.bintree_laws.proofs.CornerLemmas.{corners_of-left, corners_of-right, IsWithin-corners_of}
use Rattle.bintree_laws.proofs.LevelLemmas.{level_of-left, left-or-right}
use Rattle.mesh_laws.specs.Edge.{mate_of}
use Rattle.mesh_laws.proofs.ConformityLemmas.{IsUnder, self, below}
use Rattle.mesh_laws.proofs.IsMateLemmas.{IsMate-mate_of}
use Rattle.mesh_laws.proofs.MateLemmas.{mate_of-low, mate_of-level}
use Rattle.mosaic_laws.specs.Glue.{local_of}
use Rattle.page_laws.specs.Opened.{with_known_mate}
use Rattle.page_laws.specs.Pages.{Pages, cuts_to, square_at, is_known, IsPagePoint, page_area}
use Rattle.page_laws.specs.Loaded.{known_wedge}
use Rattle.page_laws.proofs.PointLemmas.{page-coordinate, corners-inside}
use Rattle.page_laws.proofs.LoadedLemmas.{at-under, wedge-same}
use Rattle.page_laws.proofs.ChangeLemmas.{known-other}

-- rectangles

-- a child's lies in its parent's
child-crossing : (side : ℕ) (c : Corners) (area : Area) → AreCrossing (child side c) area → AreCrossing c area
child-crossing zero c area is =
    let r = is.right in let l = is.left in let t = is.top in let b = is.bottom in
    record { right = omega arith; left = omega arith; top = omega arith; bottom = omega arith }
child-crossing (suc side) c area is =
    let r = is.right in let l = is.left in let t = is.top in let b = is.bottom in
    record { right = omega arith; left = omega arith; top = omega arith; bottom = omega arith }

pub parent-overlaps : (n x : ℕ) (area : Area) → 4 ≤ x → overlaps (corners_of n x) area ≡ true →
    overlaps (corners_of n (x / 2)) area ≡ true
parent-overlaps n x area deep over = made-overlaps (corners_of n (x / 2)) area (⊎_elim
    (λ (left : x ≡ 2 * (x / 2)). child-crossing 0 (corners_of n (x / 2)) area
    (subst (λ c. AreCrossing c area) (ap (corners_of n) left ∙ corners_of-left n (x / 2) (omega arith)) crossing))
    (λ (right : x ≡ 2 * (x / 2) + 1). child-crossing 1 (corners_of n (x / 2)) area
    (subst (λ c. AreCrossing c area) (ap (corners_of n) right ∙ corners_of-right n (x / 2) (omega arith)) crossing))
    (left-or-right x))
  where
    crossing : AreCrossing (corners_of n x) area
    crossing = read-overlaps (corners_of n x) area over

-- what lies under a triangle meets an area only where the triangle does
pub under-overlaps : (n t x : ℕ) (area : Area) → IsUnder t x → overlaps (corners_of n x) area ≡ true →
    overlaps (corners_of n t) area ≡ true
under-overlaps n t x area self over = over
under-overlaps n t x area (below y deep u) over =
    under-overlaps n t (y / 2) area u (parent-overlaps n y area deep over)

corner-in : (c : Corners) (p : Point) → IsCorner c p → IsInRectangle c p
corner-in c p (inl is) = subst (IsInRectangle c) (sym is)
    record { left = omega arith; right = omega arith; bottom = omega arith; top = omega arith }
corner-in c p (inr (inl is)) = subst (IsInRectangle c) (sym is)
    record { left = omega arith; right = omega arith; bottom = omega arith; top = omega arith }
corner-in c p (inr (inr is)) = subst (IsInRectangle c) (sym is)
    record { left = omega arith; right = omega arith; bottom = omega arith; top = omega arith }

-- a triangle with a corner in an area meets it
corner-overlaps : (c : Corners) (area : Area) (p : Point) → IsCorner c p → IsBetweenEnds area p.x p.y →
    overlaps c area ≡ true
corner-overlaps c area p corner within = meets-overlaps c area
    (p, record { in_rectangle = corner-in c p corner; in_area = made-area area p.x p.y within })

-- an end of the base of two triangles with one base is a corner of each
end-corner : (c d : Corners) → SameEnds c d → IsCorner c d.v0
end-corner c d (inl same) = inr (inl (sym same.0))
end-corner c d (inr turned) = inr (inr (sym turned.1))

under-low : (x b : ℕ) → 2 ≤ x → IsUnder x b → 2 ≤ b
under-low x b low self = low
under-low x _ low (below b big u) = omega arith

-- squares of pages

page-offset : (n q r : ℕ) → r ≤ 2 ^ n → 2 ^ q * r ≤ 2 ^ (n + q)
page-offset n q r within =
    let e : 2 ^ (n + q) ≡ 2 ^ n * 2 ^ q = pow-add 2 n q in
    let m = mul-le-mul_left (2 ^ q) within in omega arith

module _ (w : Pages) (q : ℕ) (t : Point) where
  -- the points of a page lie in its square
  pub point-within : (p : Point) → IsPagePoint w.n q t p → IsBetweenEnds (page_area w q t) p.x p.y
  point-within p (r, inside, is) = subst (λ (s : Point). IsBetweenEnds (page_area w q t) s.x s.y) (sym is)
      (let column = page-coordinate w.n q t.x r.x in
      let row = page-coordinate w.n q t.y r.y in
      let x = page-offset w.n q r.x inside.x in
      let y = page-offset w.n q r.y inside.y in
      record { left = omega arith; right = omega arith; bottom = omega arith; top = omega arith })

module _ (w : Pages) (q : ℕ) (t : Point) (fits : w.n + q ≤ w.large) where
  -- the base of a triangle of which a page has the centre begins at a point of the page
  end-point : (x : ℕ) → 2 ≤ x → 2 * cuts_to w q ≤ level_of x → level_of x < 2 * (cuts_to w q + w.n) →
      square_at w q x ≡ t → IsPagePoint w.n q t (corners_of w.large x).v0
  end-point x low first last is =
      let l = level_of-left x low in
      let large : w.large ≡ w.n + q + cuts_to w q = omega arith in
      let within = IsWithin-corners_of w.n (local_of (cuts_to w q) (2 * x)) in
      subst (λ u. IsPagePoint w.n q u (corners_of w.large x).v0) is (
        (corners_of w.n (local_of (cuts_to w q) (2 * x))).v1,
        record { x = within.v1_x; y = within.v1_y },
        ap (λ (c : Corners). c.v1) (sym (corners_of-left w.large x low)
            ∙ ap (λ k. corners_of k (2 * x)) large
            ∙ corners-inside w.n q (cuts_to w q) (2 * x) (omega arith) (omega arith) (omega arith)),
      )

  -- so a triangle that has the base meets the page's square
  base-overlaps : (x y : ℕ) → 2 ≤ y → 2 * cuts_to w q ≤ level_of y → level_of y < 2 * (cuts_to w q + w.n) →
      square_at w q y ≡ t → IsCorner (corners_of w.large x) (corners_of w.large y).v0 →
      overlaps (corners_of w.large x) (page_area w q t) ≡ true
  base-overlaps x y low first last is corner =
      corner-overlaps (corners_of w.large x) (page_area w q t) (corners_of w.large y).v0 corner
      (point-within w q t (corners_of w.large y).v0 (end-point y low first last is))

  module _ (loaded : ℕ → Point → Bool) (others : (r : ℕ) (u : Point) → (r ≡ q → u ≡ t → ⊥) → w.loaded r u ≡ loaded r u)
    where
      -- what lies under a triangle that does not meet the square is as known as it was
      under-apart : (x b : ℕ) → 2 ≤ x → overlaps (corners_of w.large x) (page_area w q t) ≡ false → IsUnder x b →
          is_known w b ≡ is_known (record w { loaded = loaded }) b
      under-apart x b low apart u = known-other w loaded q t others b (λ first last is.
          both_ways (overlaps (corners_of w.large x) (page_area w q t)) apart
          (under-overlaps w.large x b (page_area w q t) u
          (base-overlaps b b (under-low x b low u) first last is (inr (inl refl)))))

      -- so is the triangle
      pub known-apart : (x : ℕ) → 2 ≤ x → overlaps (corners_of w.large x) (page_area w q t) ≡ false →
          is_known w x ≡ is_known (record w { loaded = loaded }) x
      known-apart x low apart = under-apart x x low apart self

      -- it keeps its wedge
      pub wedge-apart : (height : Point → ℕ) (x : ℕ) → 2 ≤ x →
          overlaps (corners_of w.large x) (page_area w q t) ≡ false → known_wedge w.large height (is_known w) x
          ≡ known_wedge w.large height (is_known (record w { loaded = loaded })) x
      wedge-apart height x low apart =
          wedge-same w.large height (is_known w) (is_known (record w { loaded = loaded })) x low
          (λ b u. under-apart x b low apart (at-under x b u))

      -- its mate is as known as it was
      mate-apart : (x : ℕ) → 2 ≤ x → 1 ≤ mate_of x → overlaps (corners_of w.large x) (page_area w q t) ≡ false →
          is_known w (mate_of x) ≡ is_known (record w { loaded = loaded }) (mate_of x)
      mate-apart x low some apart = known-other w loaded q t others (mate_of x) (λ first last is.
          let level = mate_of-level x low some in
          let mate = IsMate-mate_of w.large x low (omega arith) some in
          both_ways (overlaps (corners_of w.large x) (page_area w q t)) apart
          (base-overlaps x (mate_of x) (mate_of-low x low some) first last is
          (end-corner (corners_of w.large x) (corners_of w.large (mate_of x)) mate.base)))

      -- and so it is as open as it was
      pub open-apart : (x : ℕ) → 2 ≤ x → overlaps (corners_of w.large x) (page_area w q t) ≡ false →
          with_known_mate (is_known w) x ≡ with_known_mate (is_known (record w { loaded = loaded })) x
      open-apart x low apart = ap₂ (λ b c. b && c) (known-apart x low apart) (⊎_elim
          (λ (none : mate_of x < 1).
          let e : nat_eq (mate_of x) 0 ≡ true = eq-eqb (mate_of x) 0 (omega arith) in
          ap (λ b. b || is_known w (mate_of x)) e
          ∙ sym (ap (λ b. b || is_known (record w { loaded = loaded }) (mate_of x)) e))
          (λ (some : 1 ≤ mate_of x). ap (λ b. nat_eq (mate_of x) 0 || b) (mate-apart x low some apart))
          (cases_lt (mate_of x) 1))
