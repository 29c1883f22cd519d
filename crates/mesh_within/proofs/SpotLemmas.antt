-- The farthest grid point of a triangle, column by column and row by row.
use Rattle.std.proofs.Common.{◌≡◌, ℕ, ◌+◌, ◌<◌, ◌≤◌, ◌⊎◌, List, sym, ap, subst, arith, inr, ⊎_elim}
use Rattle.std.proofs.lemmas.Bool.{cases_lt}
use Rattle.mesh_defs.specs.declared.point.Point.{Point}
use Rattle.mesh_within.specs.declared.shape.Facet.{Facet}
use Rattle.mesh_within.specs.declared.shape.Spot.{Spot}
use Rattle.mesh_within.specs.Gap.{IsSpot}

abbrev pub Attained : ℕ → ℕ → List ℕ → Facet → Spot → Type 0
Attained right top surface f s = (s.gap ≡ 0) ⊎ IsSpot right top surface f s

-- the farther of two attained spots is attained
pub farther-attained : (right top : ℕ) (surface : List ℕ) (f : Facet) (old new far : Spot) → Attained right top surface f old →
    IsSpot right top surface f new → (far ≡ old) ⊎ (far ≡ new) → Attained right top surface f far
farther-attained right top surface f old new far before here either = ⊎_elim
    (λ (e : far ≡ old). subst (λ (s : Spot). Attained right top surface f s) (sym e) before)
    (λ (e : far ≡ new). subst (λ (s : Spot). Attained right top surface f s) (sym e) (inr here))
    either

-- a bound on the columns before x and on x is one on the columns before x + 1
pub columns-more : (g : ℕ → ℕ) (from x old most here : ℕ) → ((k : ℕ) → from ≤ k → k < x → g k ≤ old) → old ≤ most →
    here ≡ g x → here ≤ most → (k : ℕ) → from ≤ k → k < x + 1 → g k ≤ most
columns-more g from x old most here before grows same bound k low less = ⊎_elim
    (λ (earlier : k < x). let h : g k ≤ old = before k low earlier in omega arith)
    (λ (le : x ≤ k).
    let e : k ≡ x = omega arith in
    let ge : g k ≡ g x = ap g e in
    omega arith)
    (cases_lt k x)

-- the same of rows
pub rows-more : (g : Point → ℕ) (P : Point → Type 0) (low y old most : ℕ) → ((o : Point) → P o → low ≤ o.y → o.y < y → g o ≤ old) →
    old ≤ most → ((x : ℕ) → P (record { x = x; y = y }) → g (record { x = x; y = y }) ≤ most) →
    (o : Point) → P o → low ≤ o.y → o.y < y + 1 → g o ≤ most
rows-more g P low y old most before grows row o has from less = ⊎_elim
    (λ (earlier : o.y < y). let h : g o ≤ old = before o has from earlier in omega arith)
    (λ (le : y ≤ o.y).
    let e : o.y ≡ y = omega arith in
    let moved : (P (record { x = o.x; y = o.y }) → g (record { x = o.x; y = o.y }) ≤ most) =
    subst (λ (i : ℕ). P (record { x = o.x; y = i }) → g (record { x = o.x; y = i }) ≤ most) (sym e) (row o.x) in
    moved has)
    (cases_lt o.y y)
