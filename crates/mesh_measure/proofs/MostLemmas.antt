-- The greatest value over more and more points, and over all of a triangle.
use Rattle.std.proofs.Common.{◌≡◌, ℕ, ◌+◌, ◌-◌, ◌*◌, ◌<◌, ◌≤◌, ◌⊎◌, ◌↔◌, inl, inr, true, max, List, length, slice_index}
use Rattle.std.proofs.Common.{refl, sym, ◌∙◌, ap₂, subst, arith, ⊎_elim}
use Rattle.std.proofs.lemmas.Bool.{cases_lt}
use Rattle.mesh_defs.specs.declared.point.Point.{Point}
use Rattle.mesh_defs.specs.declared.point.Corners.{Corners}
use Rattle.mesh_defs.specs.BoundingBox.{point, is_in_closed}
use Rattle.fit_laws.specs.PlaneHeight.{area_of}
use Rattle.mesh_measure.specs.declared.columns.Columns.{Columns}
use Rattle.mesh_measure.specs.declared.line.Line.{Line}
use Rattle.mesh_measure.specs.declared.shape.Bounds.{Bounds}
use Rattle.mesh_measure.specs.Columns.{IsColumn, IsGreatestAlong}
use Rattle.mesh_measure.specs.Line.{IsLineFrom, gap_on, excess_on}
use Rattle.mesh_measure.specs.declared.shape.HeldRow.{HeldRow}
use Rattle.mesh_measure.specs.Row.{IsHeldRow}
use Rattle.mesh_measure.specs.Most.{gap_of, gap_beyond, IsMost, IsMostUntil, IsInRow, IsInBounds, IsInRows}
use Rattle.bintree_laws.proofs.LatticeLemmas.{same_point}

-- ---- more points

-- no points yet
pub IsMost-none : (P : Point → Type 0) (f : Point → ℕ) → ((r : Point) → P r → ⊥) → IsMost P f 0
IsMost-none P f empty = record { bound = λ r h. absurd (empty r h); reached = inl refl }

-- the points of both
IsMost-both : (P R Q : Point → Type 0) (f : Point → ℕ) (i j : ℕ) → ((r : Point) → Q r → P r ⊎ R r) →
    ((r : Point) → P r → Q r) →
    ((r : Point) → R r → Q r) → IsMost P f i → IsMost R f j → IsMost Q f (max i j)
IsMost-both P R Q f i j part left right h k = record {
  bound = λ r q. ⊎_elim
      (λ p. let le : f r ≤ i = h.bound r p in omega arith)
      (λ s. let le : f r ≤ j = k.bound r s in omega arith)
      (part r q);
  reached = ⊎_elim
      (λ less. let e : max i j ≡ j = omega arith in
      ⊎_elim (λ z. inl (e ∙ z)) (λ (s : (r : Point) × R r × (f r ≡ j)).
      inr (s.0, right s.0 s.1, s.2 ∙ sym e)) k.reached)
      (λ least. let e : max i j ≡ i = omega arith in
      ⊎_elim (λ z. inl (e ∙ z)) (λ (s : (r : Point) × P r × (f r ≡ i)). inr (s.0, left s.0 s.1, s.2 ∙ sym e)) h.reached)
      (cases_lt i j);
}

-- ---- rows

-- values along the columns of a row that the triangle holds
pub IsMost-along : (c : Corners) (f : Point → ℕ) (y left right count : ℕ) (columns : Columns) (g : ℕ → ℕ) (most : ℕ) →
    columns.from ≤ columns.end → count ≡ columns.end - columns.from →
    ((x : ℕ) → IsColumn columns x ↔ (((left ≤ x) × (x < right + 1)) × (is_in_closed c (point x y) ≡ true))) →
    ((k : ℕ) → k < count → is_in_closed c (point (columns.from + k) y) ≡ true → f (point (columns.from + k) y) ≡ g k) →
    IsGreatestAlong count g most → IsMost (IsInRow c y left (right + 1)) f most
IsMost-along c f y left right count columns g most ordered size held same_at greatest = record {
  bound = λ r p.
      let same : r ≡ point r.x y = same_point r.x r.y r.x y refl p.row in
      let inside : is_in_closed c (point r.x y) ≡ true = subst (λ q. is_in_closed c q ≡ true) same p.held in
      let column = (held r.x).1 ((p.from, p.before), inside) in
      let k : ℕ = r.x - columns.from in
      let at : columns.from + k ≡ r.x = omega arith in
      let below : k < count = omega arith in
      let most_at : g k ≤ most = greatest.bound k below in
      let value : f (point (columns.from + k) y) ≡ g k =
      same_at k below (subst (λ z. is_in_closed c (point z y) ≡ true) (sym at) inside) in
      let here : f (point r.x y) ≡ g k = subst (λ z. f (point z y) ≡ g k) at value in
      subst (λ q. f q ≤ most) (sym same) (omega arith);
  reached = ⊎_elim
      (λ none. inl none)
      (λ (s : (k : ℕ) × (k < count) × (g k ≡ most)).
      let x : ℕ = columns.from + s.0 in
      let below : s.0 < count = s.1 in
      let column = (held x).0 (omega arith, omega arith) in
      inr (
        point x y,
        record { held = column.1; row = refl; from = column.0.0; before = column.0.1 },
        same_at s.0 below column.1 ∙ s.2,
      ))
      greatest.reached;
}

-- the gap at a held point, by the line
pub gap-along : (c : Corners) (f : Point → ℕ) (y from area k : ℕ) (line : Line) (heights : List ℕ) →
    area ≡ area_of c → IsLineFrom c f y from line → slice_index heights k ≡ f (point (from + k) y) →
    is_in_closed c (point (from + k) y) ≡ true →
    gap_of c f (point (from + k) y) ≡ gap_on area line heights k
gap-along c f y from area k line heights size lined height inside =
    let weights = lined k inside in
    let surface : area * slice_index heights k ≡ area_of c * f (point (from + k) y) =
    ap₂ (λ i j. i * j) size height in
    omega arith

-- so along a row the greatest beyond the points' own tolerances
pub IsMost-excesses : (c : Corners) (f t : Point → ℕ) (y left right area m side : ℕ) (row : HeldRow)
    (heights tolerances : List ℕ) (most : ℕ) →
    area ≡ area_of c → side ≡ m → IsHeldRow c f y left right row →
    length heights ≡ row.columns.end - row.columns.from → length tolerances ≡ length heights →
    ((k : ℕ) → k < length heights → slice_index heights k ≡ f (point (row.columns.from + k) y)) →
    ((k : ℕ) → k < length tolerances → slice_index tolerances k ≡ t (point (row.columns.from + k) y)) →
    IsGreatestAlong (length heights) (excess_on area side row.line heights tolerances) most →
    IsMost (IsInRow c y left (right + 1)) (gap_beyond m c f t) most
IsMost-excesses c f t y left right area m side row heights tolerances most size same h count as_many there allowed
    greatest =
    let ordered = h.ordered in
    IsMost-along c (gap_beyond m c f t) y left right (length heights) row.columns
    (excess_on area side row.line heights tolerances) most (omega arith) count h.held
    (λ k below inside.
    let p : Point = point (row.columns.from + k) y in
    let gap : gap_of c f p ≡ gap_on area row.line heights k =
    gap-along c f y row.columns.from area k row.line heights size h.lined (there k below) inside in
    let scaled : m * gap_of c f p ≡ side * gap_on area row.line heights k = ap₂ (λ i j. i * j) (sym same) gap in
    let tolerance : area_of c * t p ≡ area * slice_index tolerances k =
    ap₂ (λ i j. i * j) (sym size) (sym (allowed k (omega arith))) in
    ap₂ (λ i j. i - j) scaled tolerance)
    greatest

-- the columns that a triangle holds lie within those that were given
pub columns-within : (c : Corners) (y left right : ℕ) (columns : Columns) → columns.from < columns.end →
    ((x : ℕ) → IsColumn columns x ↔ (((left ≤ x) × (x < right + 1)) × (is_in_closed c (point x y) ≡ true))) →
    columns.end ≤ right + 1
columns-within c y left right columns some held =
    let last = (held (columns.end - 1)).0 (omega arith, omega arith) in
    omega arith

-- ---- triangles

-- a value in some rows is one within the bounds
reached-rows : (c : Corners) (bounds : Bounds) (f : Point → ℕ) (end most : ℕ) → end ≤ bounds.high + 1 →
    IsMost (IsInRows c bounds end) f most →
    (most ≡ 0) ⊎ ((r : Point) × IsInBounds c bounds r × (f r ≡ most))
reached-rows c bounds f end most last h = ⊎_elim
    (λ none. inl none)
    (λ (s : (r : Point) × IsInRows c bounds end r × (f r ≡ most)). inr (
      s.0,
      record {
        held = s.1.held;
        left = s.1.left;
        right = s.1.right;
        low = s.1.low;
        high = let before = s.1.before in omega arith;
      },
      s.2,
    ))
    h.reached

-- one row more
pub IsMost-rows_next : (c : Corners) (bounds : Bounds) (y : ℕ) (f : Point → ℕ) (i j : ℕ) → bounds.low ≤ y →
    IsMost (IsInRows c bounds y) f i →
    IsMost (IsInRow c y bounds.left (bounds.right + 1)) f j → IsMost (IsInRows c bounds (y + 1)) f (max i j)
IsMost-rows_next c bounds y f i j from h k =
    IsMost-both (IsInRows c bounds y) (IsInRow c y bounds.left (bounds.right + 1)) (IsInRows c bounds (y + 1)) f i j
    (λ r q. ⊎_elim
    (λ less. inl record { held = q.held; left = q.left; right = q.right; low = q.low; before = less })
    (λ least. inr record {
      held = q.held;
      row = let before = q.before in omega arith;
      from = q.left;
      before = let right = q.right in omega arith;
    })
    (cases_lt r.y y))
    (λ r p. record {
      held = p.held;
      left = p.left;
      right = p.right;
      low = p.low;
      before = let before = p.before in omega arith;
    })
    (λ r p. record {
      held = p.held;
      left = p.from;
      right = let before = p.before in omega arith;
      low = let row = p.row in omega arith;
      before = let row = p.row in omega arith;
    })
    h k

-- all rows
pub IsMostUntil-all : (c : Corners) (bounds : Bounds) (f : Point → ℕ) (limit end most : ℕ) →
    bounds.high < end → end ≤ bounds.high + 1 →
    IsMost (IsInRows c bounds end) f most → IsMostUntil (IsInBounds c bounds) f limit most
IsMostUntil-all c bounds f limit end most above last h = record {
  bound = λ few r p. h.bound r record {
    held = p.held;
    left = p.left;
    right = p.right;
    low = p.low;
    before = let high = p.high in omega arith;
  };
  reached = reached-rows c bounds f end most last h;
}

-- some of them, with a value above the limit
pub IsMostUntil-some : (c : Corners) (bounds : Bounds) (f : Point → ℕ) (limit end most : ℕ) →
    end ≤ bounds.high + 1 → limit < most →
    IsMost (IsInRows c bounds end) f most → IsMostUntil (IsInBounds c bounds) f limit most
IsMostUntil-some c bounds f limit end most last above h = record {
  bound = λ few. absurd (omega arith);
  reached = reached-rows c bounds f end most last h;
}
