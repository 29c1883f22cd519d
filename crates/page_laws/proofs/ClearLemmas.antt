-- Heights that differ in an area alone: a triangle whose bounding rectangle does not meet it keeps its wedge.
use Rattle.std.proofs.Common.{◌≡◌, ℕ, zero, suc, ◌-◌, ◌*◌, ◌/◌, ◌+◌, ◌≤◌, sym, ◌∙◌, ap₂, subst, arith, ⊎_elim}
use Rattle.std.proofs.Common.{Bool, true, false, refl}
use Rattle.std.proofs.lemmas.Bool.{cases_Bool, both_ways}
use Rattle.mesh_defs.specs.declared.point.Point.{Point}
use Rattle.mesh_defs.specs.declared.point.Corners.{Corners}
use Rattle.mesh_defs.specs.State.{Area, is_in_area}
use Rattle.mesh_defs.specs.Triangle.{level_of, corners_of, midpoint}
use Rattle.bintree_laws.specs.Areas.{overlaps, IsInRectangle}
use Rattle.bintree_laws.proofs.AreaLemmas.{meets-overlaps}
use Rattle.page_laws.specs.Loaded.{bend, joined_wedge, known_wedge_under, known_wedge}
use Rattle.page_laws.proofs.AreaLemmas.{parent-overlaps}
use Rattle.page_laws.proofs.LoadedLemmas.{HaveSame, corner-same, joined-same, under-unknown, under-known}

-- a child of a triangle that does not meet an area does not either
child-clear : (n x y : ℕ) (area : Area) → 4 ≤ y → y / 2 ≡ x → overlaps (corners_of n x) area ≡ false →
    overlaps (corners_of n y) area ≡ false
child-clear n x y area deep is clear = ⊎_elim
    (λ (over : overlaps (corners_of n y) area ≡ true).
    absurd (both_ways (overlaps (corners_of n x) area) clear
    (subst (λ z. overlaps (corners_of n z) area ≡ true) is (parent-overlaps n y area deep over))))
    (λ (not : overlaps (corners_of n y) area ≡ false). not)
    (cases_Bool (overlaps (corners_of n y) area))

module _ (n : ℕ) (height other : Point → ℕ) (known : ℕ → Bool) (area : Area)
    (agree : (p : Point) → is_in_area area p.x p.y ≡ false → height p ≡ other p) where
  -- a point in the bounding rectangle of corners that do not meet the area is none of the area
  point-clear : (c : Corners) (p : Point) → overlaps c area ≡ false → IsInRectangle c p → height p ≡ other p
  point-clear c p clear within = ⊎_elim
      (λ (there : is_in_area area p.x p.y ≡ true). absurd (both_ways (overlaps c area) clear
      (meets-overlaps c area (p, record { in_rectangle = within; in_area = there }))))
      (λ (not : is_in_area area p.x p.y ≡ false). agree p not)
      (cases_Bool (is_in_area area p.x p.y))

  corners-clear : (c : Corners) → overlaps c area ≡ false → HaveSame height other c c
  corners-clear c clear = record {
    apex = point-clear c c.apex clear
        record { left = omega arith; right = omega arith; bottom = omega arith; top = omega arith };
    v0 = point-clear c c.v0 clear
        record { left = omega arith; right = omega arith; bottom = omega arith; top = omega arith };
    v1 = point-clear c c.v1 clear
        record { left = omega arith; right = omega arith; bottom = omega arith; top = omega arith };
  }

  bend-clear : (c : Corners) → overlaps c area ≡ false → bend height c ≡ bend other c
  bend-clear c clear =
      let same = corners-clear c clear in
      let e = point-clear c (midpoint c.v0 c.v1) clear
      record { left = omega arith; right = omega arith; bottom = omega arith; top = omega arith } in
      let f = same.v0 in
      let g = same.v1 in
      rw (e, f, g) refl

  under-clear : (levels x : ℕ) → 2 ≤ x → overlaps (corners_of n x) area ≡ false →
      known_wedge_under levels n height known x ≡ known_wedge_under levels n other known x
  under-clear zero x low clear =
      corner-same height other (corners_of n x) (corners_of n x) (corners-clear (corners_of n x) clear)
  under-clear (suc levels) x low clear = ⊎_elim
      (λ is. under-known n height known levels x is
      ∙ joined-same height other (corners_of n x) (corners_of n x) (known_wedge_under levels n height known (2 * x))
      (known_wedge_under levels n height known (2 * x + 1)) (bend-clear (corners_of n x) clear)
      ∙ ap₂ (joined_wedge other (corners_of n x))
      (under-clear levels (2 * x) (omega arith)
      (child-clear n x (2 * x) area (omega arith) (omega arith) clear))
      (under-clear levels (2 * x + 1) (omega arith)
      (child-clear n x (2 * x + 1) area (omega arith) (omega arith) clear))
      ∙ sym (under-known n other known levels x is))
      (λ none. under-unknown n height known (suc levels) x none
      ∙ corner-same height other (corners_of n x) (corners_of n x) (corners-clear (corners_of n x) clear)
      ∙ sym (under-unknown n other known (suc levels) x none))
      (cases_Bool (known x))

  -- a triangle that does not meet the area has the same wedge
  pub wedge-clear : (x : ℕ) → 2 ≤ x → overlaps (corners_of n x) area ≡ false →
      known_wedge n height known x ≡ known_wedge n other known x
  unfolding known_wedge
  wedge-clear x low clear = under-clear (2 * n - level_of x) x low clear
