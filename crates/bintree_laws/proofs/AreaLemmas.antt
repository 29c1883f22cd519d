-- Two rectangles share a grid point exactly where their columns and their rows overlap.
use Rattle.std.proofs.Common.{◌≡◌, ℕ, ◌≤◌, true, max, arith}
use Rattle.std.specs.Cmp.Derive.{both_true}
use Rattle.std.proofs.lemmas.Bool.{leb-true, le-leb, and_parts}
use Rattle.mesh_defs.specs.declared.point.Point.{Point}
use Rattle.mesh_defs.specs.declared.point.Corners.{Corners}
use Rattle.mesh_defs.specs.BoundingBox.{least_of_3, greatest_of_3}
use Rattle.mesh_defs.specs.State.{Area, is_in_area}
use Rattle.bintree_laws.specs.Areas.{MeetsArea, IsInRectangle, overlaps}

-- what is known of a point of the area
pub record IsBetweenEnds (area : Area) (i j : ℕ) : Type 0 where
  pub left : area.x0 ≤ i
  pub right : i ≤ area.x1
  pub bottom : area.y0 ≤ j
  pub top : j ≤ area.y1

-- a point in the area lies between its ends
pub read-area : (area : Area) (i j : ℕ) → is_in_area area i j ≡ true → IsBetweenEnds area i j
read-area area i j held = grind (arith)

-- and the other way
pub made-area : (area : Area) (i j : ℕ) → IsBetweenEnds area i j → is_in_area area i j ≡ true
made-area area i j held = grind (arith)

-- the columns and the rows overlap
pub record AreCrossing (c : Corners) (area : Area) : Type 0 where
  pub right : area.x0 ≤ greatest_of_3 c.apex.x c.v0.x c.v1.x
  pub left : least_of_3 c.apex.x c.v0.x c.v1.x ≤ area.x1
  pub top : area.y0 ≤ greatest_of_3 c.apex.y c.v0.y c.v1.y
  pub bottom : least_of_3 c.apex.y c.v0.y c.v1.y ≤ area.y1

-- what overlaps has overlapping columns and rows
pub read-overlaps : (c : Corners) (area : Area) → overlaps c area ≡ true → AreCrossing c area
read-overlaps c area over =
    let one = and_parts _ _ over in let two = and_parts _ _ one.1 in let three = and_parts _ _ two.1 in
    record {
      right = leb-true _ _ one.0;
      left = leb-true _ _ two.0;
      top = leb-true _ _ three.0;
      bottom = leb-true _ _ three.1;
    }

-- and the other way
pub made-overlaps : (c : Corners) (area : Area) → AreCrossing c area → overlaps c area ≡ true
made-overlaps c area is =
    both_true (le-leb _ _ is.right)
    (both_true (le-leb _ _ is.left) (both_true (le-leb _ _ is.top) (le-leb _ _ is.bottom)))

-- what overlaps a rectangle shares a grid point with it
pub overlaps-meets : (c : Corners) (area : Area) → area.x0 ≤ area.x1 → area.y0 ≤ area.y1 →
    overlaps c area ≡ true → MeetsArea c area
overlaps-meets c area columns rows over =
    let is = read-overlaps c area over in
    let p : Point = record {
      x = max area.x0 (least_of_3 c.apex.x c.v0.x c.v1.x);
      y = max area.y0 (least_of_3 c.apex.y c.v0.y c.v1.y);
    } in (
      p,
      record {
        in_rectangle = record {
          left = omega arith;
          right = omega (arith, is.right);
          bottom = omega arith;
          top = omega (arith, is.top);
        };
        in_area = made-area area p.x p.y (record {
          left = omega arith;
          right = omega (arith, is.left);
          bottom = omega arith;
          top = omega (arith, is.bottom);
        });
      },
    )

-- and what shares one overlaps it
pub meets-overlaps : (c : Corners) (area : Area) → MeetsArea c area → overlaps c area ≡ true
meets-overlaps c area meets =
    let p : Point = meets.0 in
    let r : IsInRectangle c p = meets.1.in_rectangle in
    let e : IsBetweenEnds area p.x p.y = read-area area p.x p.y meets.1.in_area in
    made-overlaps c area (record {
      right = omega (arith, r.right, e.left);
      left = omega (arith, r.left, e.right);
      top = omega (arith, r.top, e.bottom);
      bottom = omega (arith, r.bottom, e.top);
    })
