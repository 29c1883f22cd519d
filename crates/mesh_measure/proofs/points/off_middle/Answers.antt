-- The midpoint is a point that the triangle holds, and its plane is halfway there between the ends of the base.
use Rattle.std.proofs.Common.{◌≡◌, ℕ, ◌+◌, ◌-◌, ◌*◌, ◌^◌, ◌≤◌, sym, ◌∙◌, subst, ap, ap₂, arith}
use Rattle.mesh_defs.specs.declared.point.Point.{Point}
use Rattle.mesh_defs.specs.declared.point.Corners.{Corners}
use Rattle.mesh_defs.specs.Triangle.{midpoint}
use Rattle.mesh_defs.specs.Thickness.{height_of, apart}
use Rattle.bintree_laws.specs.Corners.{IsWithin}
use Rattle.bintree_laws.proofs.CornerLemmas.{IsWithin-corners_of}
use Rattle.mesh_laws.proofs.DescentLemmas.{IsAddress-level}
use Rattle.mesh_measure.proofs.MiddleLemmas.{off-middle}
use Rattle.mesh_measure.proofs.points.off_middle.Goals as goal

pub height-requires : goal.height-requires
height-requires c =
    let w = subst (λ d. IsWithin (2 ^ c.args.grid.now.n) d) (sym c.requires.corners)
    (IsWithin-corners_of c.args.grid.now.n c.args.t) in
    record { in_columns = omega arith; in_rows = omega arith }

pub returns : goal.returns
returns c =
    let n : ℕ = c.args.grid.now.n in
    let f : Point → ℕ = height_of n c.args.grid.now.heights in
    let corners : Corners = c.args.facet.corners in
    let m : Point = midpoint corners.v0 corners.v1 in
    let low : 2 ≤ c.args.t = omega arith in
    let below = c.if-level-n.false in
    let level = c.level.ensures.value in
    let same = c.n-n.ensures.value in
    let le = off-middle n c.args.grid.now.heights c.args.t corners (IsAddress-level n c.args.t low c.requires.level)
    (omega arith) c.requires.corners in
    let middle : c.from-middle.result ≡ f m = c.from-middle.ensures ∙ c.height.ensures.value in
    let first : c.from.result ≡ f corners.v0 = c.from.ensures ∙ c.requires.facet.v0 in
    let second : c.from-2.result ≡ f corners.v1 = c.from-2.ensures ∙ c.requires.facet.v1 in
    let value = c.abs_diff.ensures in
    let off : c.abs_diff.result ≡ apart (2 * f m) (f corners.v0 + f corners.v1) = omega arith in
    let power : 2 ^ (c.n-n.result - 1) ≡ 2 ^ (n - 1) = ap (λ k. 2 ^ (k - 1)) same in
    let whole : c.abs_diff.result * 2 ^ (c.n-n.result - 1)
    ≡ apart (2 * f m) (f corners.v0 + f corners.v1) * 2 ^ (n - 1) = ap₂ (λ i j. i * j) off power in
    omega arith
