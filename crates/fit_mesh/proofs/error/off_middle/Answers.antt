-- The midpoint is a point of the grid, and where the triangle holds it, its distance is at most the error.
use Rattle.std.proofs.Common.{◌≡◌, ℕ, ◌^◌, ◌≤◌, refl, ap, arith}
use Rattle.mesh_defs.specs.declared.point.Point.{Point}
use Rattle.mesh_defs.specs.BoundingBox.{point}
use Rattle.bintree_laws.proofs.CornerLemmas.{IsWithin-corners_of}
use Rattle.mesh_laws.proofs.DescentLemmas.{IsAddress-level}
use Rattle.fit_laws.specs.PlaneHeight.{off_plane}
use Rattle.fit_laws.proofs.PlaneLemmas.{held-le}
use Rattle.fit_mesh.proofs.ErrorLemmas.{error-greatest}
use Rattle.fit_mesh.proofs.error.off_middle.Goals as goal

pub off_point-requires-clause-x_in_grid : goal.off_point-requires-clause-x_in_grid
off_point-requires-clause-x_in_grid c =
    let w = IsWithin-corners_of c.n-2.result c.args.t in
    let side : 2 ^ c.n-2.result ≡ 2 ^ c.args.grid.now.n = ap (λ k. 2 ^ k) c.n-2.ensures.value in
    let x = ap (λ (p : Point). p.x) c.centre-centre.ensures.value in
    omega arith

pub off_point-requires-clause-y_in_grid : goal.off_point-requires-clause-y_in_grid
off_point-requires-clause-y_in_grid c =
    let w = IsWithin-corners_of c.n-2.result c.args.t in
    let side : 2 ^ c.n-2.result ≡ 2 ^ c.args.grid.now.n = ap (λ k. 2 ^ k) c.n-2.ensures.value in
    let y = ap (λ (p : Point). p.y) c.centre-centre.ensures.value in
    omega arith

pub returns-in-Some : goal.returns-in-Some
returns-in-Some c =
    let n : ℕ = c.args.grid.now.n in
    let low : 2 ≤ c.args.t = omega arith in
    let le = held-le (off_plane n c.args.grid.now.heights c.args.t) n c.args.t
    (point c.centre-centre.result.x c.centre-centre.result.y)
    (IsAddress-level n c.args.t low c.requires.level) (c.in-Some.ensures.held.0 refl) in
    let value = c.in-Some.ensures.value in
    let same = error-greatest n c.args.grid.now.heights c.args.t in
    omega arith
