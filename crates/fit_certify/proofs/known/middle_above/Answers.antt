-- The midpoint is a point of the grid.
use Rattle.std.proofs.Common.{◌≡◌, ℕ, ◌^◌, ◌≤◌, refl, ap, arith}
use Rattle.mesh_defs.specs.declared.point.Point.{Point}
use Rattle.mesh_defs.specs.Triangle.{midpoint, corners_of}
use Rattle.bintree_laws.proofs.CornerLemmas.{IsWithin-corners_of}
use Rattle.fit_certify.proofs.known.middle_above.Goals as goal

middle-inside : (n k t : ℕ) (p : Point) → k ≡ n → p ≡ midpoint (corners_of k t).v0 (corners_of k t).v1 →
    (p.x ≤ 2 ^ n) × (p.y ≤ 2 ^ n)
middle-inside n k t p same is =
    let w = IsWithin-corners_of k t in
    let side : 2 ^ k ≡ 2 ^ n = ap (λ m. 2 ^ m) same in
    let x = ap (λ (q : Point). q.x) is in
    let y = ap (λ (q : Point). q.y) is in
    (omega arith, omega arith)

pub off_point-requires-clause-x_in_grid : goal.off_point-requires-clause-x_in_grid
off_point-requires-clause-x_in_grid c =
    (middle-inside c.args.grid.now.n c.n.result c.args.t c.centre-middle.result c.n.ensures.value
    c.centre-middle.ensures.value).0

pub off_point-requires-clause-y_in_grid : goal.off_point-requires-clause-y_in_grid
off_point-requires-clause-y_in_grid c =
    (middle-inside c.args.grid.now.n c.n.result c.args.t c.centre-middle.result c.n.ensures.value
    c.centre-middle.ensures.value).1

pub returns-in-Some : goal.returns-in-Some
returns-in-Some c =
    let inside = middle-inside c.args.grid.now.n c.n.result c.args.t c.centre-middle.result c.n.ensures.value
    c.centre-middle.ensures.value in
    let value = c.in-Some.ensures.value in
    let from = c.from.ensures in
    let above = c.if-off-from.true in
    record { column = inside.0; row = inside.1; held = c.in-Some.ensures.held.0 refl; above = omega arith }
