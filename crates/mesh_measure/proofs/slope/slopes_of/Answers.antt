-- The steps are those of the two differences, and the height at the apex is that of the surface.
use Rattle.std.proofs.Common.{◌≡◌, ℕ, ◌+◌, ◌*◌, ◌^◌, ◌≤◌, List, sym, ◌∙◌, ap, ap₂, arith}
use Rattle.mesh_defs.specs.declared.point.Corners.{Corners}
use Rattle.mesh_defs.specs.BoundingBox.{point}
use Rattle.mesh_laws.proofs.DescentLemmas.{IsAddress-level}
use Rattle.mesh_measure.proofs.RowLemmas.{plane-small}
use Rattle.mesh_measure.proofs.SlopeLemmas.{height-by-steps}
use Rattle.mesh_measure.proofs.slope.slopes_of.Goals as goal

pub returns : goal.returns
returns c x y held =
    let n : ℕ = c.args.grid.now.n in
    let heights : List ℕ = c.args.grid.now.heights in
    let t : ℕ = c.args.t in
    let facet = c.args.facet in
    let d : Corners = facet.corners in
    let valid = c.requires.facet in
    let same : c.n-n.result ≡ n = c.n-n.ensures.value in
    let low : 2 ≤ t = omega (arith, c.number-address.ensures.low, c.number-address.ensures.value) in
    let address = IsAddress-level n t (omega arith) c.requires.level in
    let grid = c.n-n.ensures.valid in
    let rise : 2 ^ c.n-n.result * c.weigh_coordinates-rise.result
    ≡ 2 ^ n * (d.v0.y * facet.apex + d.v1.y * facet.v0 + d.apex.y * facet.v1) =
    ap₂ (λ k z. 2 ^ k * z) same c.weigh_coordinates-rise.ensures.value in
    let fall : 2 ^ c.n-n.result * c.weigh_coordinates-fall.result
    ≡ 2 ^ n * (d.v1.y * facet.apex + d.apex.y * facet.v0 + d.v0.y * facet.v1) =
    ap₂ (λ k z. 2 ^ k * z) same c.weigh_coordinates-fall.ensures.value in
    let gain : 2 ^ c.n-n.result * c.weigh_coordinates-gain.result
    ≡ 2 ^ n * (d.v1.x * facet.apex + d.apex.x * facet.v0 + d.v0.x * facet.v1) =
    ap₂ (λ k z. 2 ^ k * z) same c.weigh_coordinates-gain.ensures.value in
    let loss : 2 ^ c.n-n.result * c.weigh_coordinates-loss.result
    ≡ 2 ^ n * (d.v0.x * facet.apex + d.v1.x * facet.v0 + d.apex.x * facet.v1) =
    ap₂ (λ k z. 2 ^ k * z) same c.weigh_coordinates-loss.ensures.value in
    height-by-steps n heights t d facet.apex facet.v0 facet.v1 facet.log_area address c.requires.corners
    valid.apex valid.v0 valid.v1 (sym valid.power ∙ valid.area) x y c.step-right.result c.step-up.result c.start.result
    (plane-small n heights t c.args.grid.now.maxval (point x y) address valid.in_grid grid.maxval_high grid.bounded held)
    held
    (λ i j e. c.step-right.ensures i j (ap (λ k. 2 ^ facet.log_area * i + k) fall ∙ e
    ∙ ap (λ k. 2 ^ facet.log_area * j + k) (sym rise)))
    (λ i j e. c.step-up.ensures i j (ap (λ k. 2 ^ facet.log_area * i + k) loss ∙ e
    ∙ ap (λ k. 2 ^ facet.log_area * j + k) (sym gain)))
    (c.start.ensures ∙ c.raised.ensures ∙ ap (λ k. 2 ^ k * facet.apex) same)
